use Rattle.std.proofs.Common.{◌≡◌, ◌≤◌, ℕ, Option, None, arith, inl, inr, refl, subst}
use Rattle.arguments.proofs.Refusing.{not_refused, refuses}
use Rattle.arguments.specs.Words.{IsStatusOf, texts}
use Rattle.arguments.proofs.Parsed.{not_both, one_asked}
use Rattle.arguments_play.specs.Run.{RunAsked, words_in, run, run_view}
use Rattle.word_run.specs.Runs.{IsDone}
use Rattle.loading.proofs.Machines.{unmade_by_memory}
use Rattle.loading.proofs.WarningsTold.{untold}
use Rattle.loading.specs.Warned.{OnlyWarned}
use Rattle.word_run.proofs.run.run_program.Goals as goal

pub returns-in-Ok-clause-done : goal.returns-in-Ok-clause-done
returns-in-Ok-clause-done g c a h fits =
    subst (λ (b : RunAsked). IsDone b (record {
      given = g.R.Read.remaining c.args.input.now;
      left = g.R.Read.remaining c.run_words.new.input;
      held = g.W.Write.contents c.args.output.now.inner;
      now = g.W.Write.contents c.run_words.new.output.inner;
    }) c.run_words.new.output.interrupted (record {
      held = g.E.Write.contents c.args.errors.now;
      now = g.E.Write.contents c.run_words.new.errors;
    }) c.run_words.result ((c.run_words.new.input ≡ c.args.input.now) × (c.run_words.new.output ≡ c.args.output.now)))
    (one_asked _ (run_view c.in-Ok.words) a c.in-Ok.ensures.asked h) c.run_words.ensures.done

pub returns-in-Ok-clause-refused : goal.returns-in-Ok-clause-refused
returns-in-Ok-clause-refused g c =
    not_refused run (texts c.args.words.now) (words_in (texts c.args.words.now) ≡ None) c.run_words.result
    (c.run_words.new.input ≡ c.args.input.now) (c.run_words.new.output ≡ c.args.output.now)
    c.in-Ok.ensures.fits (not_both _ (run_view c.in-Ok.words) c.in-Ok.ensures.asked)

pub returns-in-Err-clause-refused : goal.returns-in-Err-clause-refused
returns-in-Err-clause-refused g c =
    refuses run (texts c.args.words.now) (words_in (texts c.args.words.now) ≡ None) c.in-Err.fault c.refused_words.result
    (c.args.input.now ≡ c.args.input.now) (c.refused_words.new.output ≡ c.args.output.now)
    c.in-Err.ensures.refused c.refused_words.ensures.status refl c.refused_words.ensures.untouched

-- The words were right, so memory ran out.
pub returns-in-Err-clause-done : goal.returns-in-Err-clause-done
returns-in-Err-clause-done g c a h fits =
    inl (unmade_by_memory a.file a.others a.symbols (record {
      held = g.E.Write.contents c.args.errors.now;
      now = g.E.Write.contents c.refused_words.new.errors;
    }) c.in-Err.fault c.refused_words.result (c.args.input.now ≡ c.args.input.now) (c.refused_words.new.output ≡ c.args.output.now)
    (c.in-Err.ensures.served a fits h)
    c.refused_words.ensures.status c.refused_words.ensures.told refl c.refused_words.ensures.untouched)

pub returns-in-Err-clause-bad_map : goal.returns-in-Err-clause-bad_map
returns-in-Err-clause-bad_map g c a h fits bad =
    inr (subst (λ f. IsStatusOf f c.refused_words.result) (c.in-Err.ensures.served a fits h) c.refused_words.ensures.status)

pub returns-in-Ok-clause-quiet : goal.returns-in-Ok-clause-quiet
returns-in-Ok-clause-quiet g c base none zero =
    let given = none (run_view c.in-Ok.words) c.in-Ok.ensures.asked in
    subst (λ (at : Option ℕ). OnlyWarned at (g.E.Write.contents c.args.errors.now) (g.E.Write.contents c.run_words.new.errors)) given.2
    (c.run_words.ensures.quiet given.0 given.1 zero)

-- Help was written, and nothing was told.
pub returns-in-Err-clause-quiet : goal.returns-in-Err-clause-quiet
returns-in-Err-clause-quiet g c base none zero = untold g.E.Write.contents base c.args.errors.now c.refused_words.new.errors
    (c.refused_words.ensures.quiet (omega (arith, zero)))
