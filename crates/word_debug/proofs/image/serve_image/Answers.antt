use Rattle.std.proofs.Common.{ap, arith, refl, ◌∙◌}
use Rattle.arguments.specs.Words.{texts}
use Rattle.word_debug.proofs.Ends.{failed_of}
use Rattle.word_debug.proofs.OnImage.{ends_of}
use Rattle.word_debug.proofs.Passing.{passes_of}
use Rattle.word_debug.proofs.image.serve_image.Goals as goal

pub returns-clause-untouched : goal.returns-clause-untouched
returns-clause-untouched g c one two =
    let plain = failed_of c.debug_image-status.result c.status_of_replies.result c.finish-has_fault.result.0 c.status_of_replies.ensures.done
    c.status_of_replies.ensures.failed one (omega (arith, two)) in
    let kept = c.debug_image-status.ensures.untouched plain.0 (omega (arith, two, plain.1)) in
    (kept.0, c.finish-has_fault.ensures.inner ∙ ap (λ w. w.inner) kept.1 ∙ c.over-watch.ensures.inner)

pub returns-clause-ended : goal.returns-clause-ended
returns-clause-ended g c =
    let passes = passes_of _ _ _ _ c.finish-has_fault.result.0 c.over-watch.ensures.told c.finish-has_fault.ensures.passed in
    ends_of (texts c.args.words.now) _ _ c.debug_image-status.result c.status_of_replies.result c.finish-has_fault.result.0 passes refl
    c.status_of_replies.ensures.done c.status_of_replies.ensures.failed c.debug_image-status.ensures.status c.debug_image-status.ensures.ended

pub returns-clause-refused : goal.returns-clause-refused
returns-clause-refused g c = (
  λ one.
      let plain = failed_of c.debug_image-status.result c.status_of_replies.result c.finish-has_fault.result.0 c.status_of_replies.ensures.done
      c.status_of_replies.ensures.failed (omega (arith, one)) (omega (arith, one)) in
      c.debug_image-status.ensures.wrong (omega (arith, plain.1, one)),
  λ two.
      let plain = failed_of c.debug_image-status.result c.status_of_replies.result c.finish-has_fault.result.0 c.status_of_replies.ensures.done
      c.status_of_replies.ensures.failed (omega (arith, two)) (omega (arith, two)) in
      c.debug_image-status.ensures.refused (omega (arith, plain.1, two)),
)
