use Rattle.std.proofs.Common.{◌≡◌, None, inl, inr, refl, subst}
use Rattle.arguments.proofs.Refusing.{not_refused, refuses}
use Rattle.arguments.specs.Words.{IsStatusOf, texts}
use Rattle.arguments.proofs.Parsed.{not_both, one_asked}
use Rattle.arguments_play.specs.Mon.{MonAsked, words_in, mon, mon_view}
use Rattle.loading.proofs.Machines.{unloaded_files_by_memory}
use Rattle.word_mon.specs.Done.{IsDone}
use Rattle.word_mon.proofs.serving.mon.Goals as goal

pub returns-in-Ok-clause-done : goal.returns-in-Ok-clause-done
returns-in-Ok-clause-done g c a h fits =
    subst (λ (b : MonAsked). IsDone b (g.R.Read.remaining c.args.input.now) (g.R.Read.remaining c.mon_words.new.input)
    (g.O.Write.contents c.args.output.now) (g.O.Write.contents c.mon_words.new.output) (record {
      held = g.E.Write.contents c.args.errors.now;
      now = g.E.Write.contents c.mon_words.new.errors;
    }) c.mon_words.result ((c.mon_words.new.input ≡ c.args.input.now) × (c.mon_words.new.output ≡ c.args.output.now)))
    (one_asked _ (mon_view c.in-Ok.words) a c.in-Ok.ensures.asked h) c.mon_words.ensures.done

pub returns-in-Ok-clause-refused : goal.returns-in-Ok-clause-refused
returns-in-Ok-clause-refused g c =
    not_refused mon (texts c.args.words.now) (words_in (texts c.args.words.now) ≡ None) c.mon_words.result
    (c.mon_words.new.input ≡ c.args.input.now) (c.mon_words.new.output ≡ c.args.output.now)
    c.in-Ok.ensures.fits (not_both _ (mon_view c.in-Ok.words) c.in-Ok.ensures.asked)

pub returns-in-Err-clause-refused : goal.returns-in-Err-clause-refused
returns-in-Err-clause-refused g c =
    refuses mon (texts c.args.words.now) (words_in (texts c.args.words.now) ≡ None) c.in-Err.fault c.refused_words.result
    (c.args.input.now ≡ c.args.input.now) (c.refused_words.new.output ≡ c.args.output.now)
    c.in-Err.ensures.refused c.refused_words.ensures.status refl c.refused_words.ensures.untouched

-- The words were right, so memory ran out.
pub returns-in-Err-clause-done : goal.returns-in-Err-clause-done
returns-in-Err-clause-done g c a h fits =
    inl (unloaded_files_by_memory a.file a.others (record {
      held = g.E.Write.contents c.args.errors.now;
      now = g.E.Write.contents c.refused_words.new.errors;
    }) c.in-Err.fault c.refused_words.result (c.args.input.now ≡ c.args.input.now) (c.refused_words.new.output ≡ c.args.output.now)
    (c.in-Err.ensures.served a fits h)
    c.refused_words.ensures.status c.refused_words.ensures.told refl c.refused_words.ensures.untouched)

pub returns-in-Err-clause-bad_map : goal.returns-in-Err-clause-bad_map
returns-in-Err-clause-bad_map g c a h fits bad =
    inr (subst (λ f. IsStatusOf f c.refused_words.result) (c.in-Err.ensures.served a fits h) c.refused_words.ensures.status)
