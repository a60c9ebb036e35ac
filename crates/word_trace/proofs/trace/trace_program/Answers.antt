use Rattle.std.proofs.Common.{◌≡◌, None, inl, inr, refl, subst}
use Rattle.arguments.proofs.Refusing.{not_refused, refuses}
use Rattle.arguments.specs.Words.{IsStatusOf, texts}
use Rattle.arguments.proofs.Parsed.{not_both, one_asked}
use Rattle.arguments_play.specs.Trace.{TraceAsked, words_in, trace, trace_view}
use Rattle.loading.proofs.Machines.{unmade_by_memory}
use Rattle.word_trace.specs.Traces.{IsDone}
use Rattle.word_trace.proofs.trace.trace_program.Goals as goal

pub returns-in-Ok-clause-done : goal.returns-in-Ok-clause-done
returns-in-Ok-clause-done g c a h fits =
    subst (λ (b : TraceAsked). IsDone b (record {
      given = g.R.Read.remaining c.args.input.now;
      left = g.R.Read.remaining c.trace_words.new.input;
      held = g.O.Write.contents c.args.output.now;
      now = g.O.Write.contents c.trace_words.new.output;
    }) (record {
      held = g.E.Write.contents c.args.errors.now;
      now = g.E.Write.contents c.trace_words.new.errors;
    }) c.trace_words.result
    ((c.trace_words.new.input ≡ c.args.input.now) × (c.trace_words.new.output ≡ c.args.output.now)))
    (one_asked _ (trace_view c.in-Ok.words) a c.in-Ok.ensures.asked h) c.trace_words.ensures.done

pub returns-in-Ok-clause-refused : goal.returns-in-Ok-clause-refused
returns-in-Ok-clause-refused g c =
    not_refused trace (texts c.args.words.now) (words_in (texts c.args.words.now) ≡ None) c.trace_words.result
    (c.trace_words.new.input ≡ c.args.input.now) (c.trace_words.new.output ≡ c.args.output.now)
    c.in-Ok.ensures.fits (not_both _ (trace_view c.in-Ok.words) c.in-Ok.ensures.asked)

pub returns-in-Err-clause-refused : goal.returns-in-Err-clause-refused
returns-in-Err-clause-refused g c =
    refuses trace (texts c.args.words.now) (words_in (texts c.args.words.now) ≡ None) c.in-Err.fault c.refused_words.result
    (c.args.input.now ≡ c.args.input.now) (c.refused_words.new.output ≡ c.args.output.now)
    c.in-Err.ensures.refused c.refused_words.ensures.status refl c.refused_words.ensures.untouched

-- The words were right, so memory ran out.
pub returns-in-Err-clause-done : goal.returns-in-Err-clause-done
returns-in-Err-clause-done g c a h fits =
    inl (unmade_by_memory a.file a.others a.symbols (record {
      held = g.E.Write.contents c.args.errors.now;
      now = g.E.Write.contents c.refused_words.new.errors;
    }) c.in-Err.fault c.refused_words.result (c.args.input.now ≡ c.args.input.now) (c.refused_words.new.output ≡ c.args.output.now)
    (c.in-Err.ensures.served a fits h)
    c.refused_words.ensures.status c.refused_words.ensures.told refl c.refused_words.ensures.untouched)

pub returns-in-Err-clause-bad_map : goal.returns-in-Err-clause-bad_map
returns-in-Err-clause-bad_map g c a h fits bad =
    inr (subst (λ f. IsStatusOf f c.refused_words.result) (c.in-Err.ensures.served a fits h) c.refused_words.ensures.status)
