use Rattle.std.proofs.Common.{◌≡◌, None, inl, inr, refl, subst, arith}
use Rattle.arguments.proofs.Refusing.{not_refused, refuses}
use Rattle.arguments.proofs.Parsed.{not_both, one_asked}
use Rattle.arguments.specs.Words.{IsStatusOf, texts}
use Rattle.loading.proofs.Unloaded.{unloaded_by_memory}
use Rattle.word_page.specs.Asked.{PageAsked, words_in, page_view}
use Rattle.word_page.specs.CommandLine.{page}
use Rattle.word_page.specs.Done.{IsDone}
use Rattle.word_page.proofs.run.page.Goals as goal

pub returns-in-Ok-clause-done : goal.returns-in-Ok-clause-done
returns-in-Ok-clause-done g c a h fits = (
  refl,
  subst (λ (b : PageAsked). IsDone b (record {
    held = g.E.Write.contents c.args.errors.now;
    now = g.E.Write.contents c.show_words.new.errors;
  }) c.show_words.result) (one_asked _ (page_view c.in-Ok.words) a c.in-Ok.ensures.asked h) c.show_words.ensures.done,
)

pub returns-in-Ok-clause-refused : goal.returns-in-Ok-clause-refused
returns-in-Ok-clause-refused g c =
    not_refused page (texts c.args.words.now) (words_in (texts c.args.words.now) ≡ None) c.show_words.result
    (Unit {0}) (c.args.output.now ≡ c.args.output.now) c.in-Ok.ensures.fits (not_both _ (page_view c.in-Ok.words) c.in-Ok.ensures.asked)

pub returns-in-Err-clause-refused : goal.returns-in-Err-clause-refused
returns-in-Err-clause-refused g c =
    refuses page (texts c.args.words.now) (words_in (texts c.args.words.now) ≡ None) c.in-Err.fault c.refused_words.result
    (Unit {0}) (c.refused_words.new.output ≡ c.args.output.now)
    c.in-Err.ensures.refused c.refused_words.ensures.status tt c.refused_words.ensures.untouched

-- The words were right, so memory ran out.
pub returns-in-Err-clause-done : goal.returns-in-Err-clause-done
returns-in-Err-clause-done g c a h fits =
    let memory = c.in-Err.ensures.served a fits h in
    let three : c.refused_words.result ≡ 3 = subst (λ f. IsStatusOf f c.refused_words.result) memory c.refused_words.ensures.status in
    let unloaded = unloaded_by_memory a.file (record {
      held = g.E.Write.contents c.args.errors.now;
      now = g.E.Write.contents c.refused_words.new.errors;
    }) c.in-Err.fault c.refused_words.result (Unit {0}) (Unit {0}) memory c.refused_words.ensures.status c.refused_words.ensures.told tt (λ one most. tt) in (
      c.refused_words.ensures.untouched (omega (arith, three)) (omega (arith, three)),
      inl (unloaded.0, unloaded.1, unloaded.2, unloaded.3, tt),
    )

pub returns-in-Err-clause-bad_map : goal.returns-in-Err-clause-bad_map
returns-in-Err-clause-bad_map g c a h fits bad =
    inr (subst (λ f. IsStatusOf f c.refused_words.result) (c.in-Err.ensures.served a fits h) c.refused_words.ensures.status)
