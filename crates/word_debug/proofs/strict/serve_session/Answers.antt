use Rattle.std.proofs.Common.{ap, arith, refl, ◌∙◌}
use Rattle.program.specs.Views.{debug_view}
use Rattle.word_debug.proofs.Ends.{failed_of}
use Rattle.word_debug.proofs.Passing.{passes_of}
use Rattle.word_debug.proofs.Running.{runs_of}
use Rattle.word_debug.proofs.strict.serve_session.Goals as goal

pub returns-clause-told : goal.returns-clause-told
returns-clause-told g c one four =
    let plain = failed_of c.debug_named-status.result c.status_of_replies.result c.finish-has_fault.result.0 c.status_of_replies.ensures.done
    c.status_of_replies.ensures.failed one four in
    rw plain.1 (c.debug_named-status.ensures.told plain.0)

pub returns-clause-untouched : goal.returns-clause-untouched
returns-clause-untouched g c one two =
    let plain = failed_of c.debug_named-status.result c.status_of_replies.result c.finish-has_fault.result.0 c.status_of_replies.ensures.done
    c.status_of_replies.ensures.failed one (omega (arith, two)) in
    let kept = c.debug_named-status.ensures.untouched plain.0 (omega (arith, two, plain.1)) in
    (kept.0, c.finish-has_fault.ensures.inner ∙ ap (λ w. w.inner) kept.1 ∙ c.over-watch.ensures.inner)

pub returns-clause-runs : goal.returns-clause-runs
returns-clause-runs g c =
    let passes = passes_of _ _ _ _ c.finish-has_fault.result.0 c.over-watch.ensures.told c.finish-has_fault.ensures.passed in
    runs_of (debug_view c.args.words.now) _ _ c.debug_named-status.result c.status_of_replies.result c.finish-has_fault.result.0 _ _
    (λ alone. (alone.0, c.finish-has_fault.ensures.inner ∙ ap (λ w. w.inner) alone.1 ∙ c.over-watch.ensures.inner)) passes refl refl
    c.status_of_replies.ensures.done c.status_of_replies.ensures.failed c.debug_named-status.ensures.status c.debug_named-status.ensures.runs
