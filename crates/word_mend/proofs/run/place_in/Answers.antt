use Rattle.std.proofs.Common.{◌<◌, ◌≤◌, ◌∙◌, length, slice_index, sym, arith}
use Rattle.word_mend.specs.Reported.{ends_before}
use Rattle.word_mend.proofs.Found.{place_at_end, place_passed, place_reached, place_skipped}
use Rattle.word_mend.proofs.run.place_in.Goals as goal
use Rattle.word_mend.proofs.run.place_in.Goals.{then-is_kept+else-left-ends, else-is_kept}

pub returns-then-left-ends-clause-value : goal.returns-then-left-ends-clause-value
returns-then-left-ends-clause-value c =
    let few : c.loop-place.left ≤ ends_before c.loop-place.is_first (slice_index c.args.text.now c.loop-place.place) =
    omega (arith, c.ends_before-ends.ensures, c.if-left-ends.true) in
    place_reached c.args.text.now c.loop-place.left c.loop-place.is_first c.loop-place.place _ (omega (arith, c.loop-place-test.true))
    c.loop-place.invariant (sym c.is_kept.ensures ∙ c.if-is_kept.true) few

pub loop-place-preserved : goal.loop-place-preserved
loop-place-preserved c =
    let there : c.loop-place.place < length c.args.text.now = omega (arith, c.loop-place-test.true) in
    let is = sym c.is_kept.ensures in
    elim c.if-is_kept.branch [
      | then-is_kept+else-left-ends w ↦ place_passed c.args.text.now c.loop-place.left c.loop-place.is_first c.loop-place.place _ there
          c.loop-place.invariant _ _ (is ∙ w.if-is_kept.true) (omega (arith, w.ends_before-ends.ensures, w.if-left-ends.false))
          (omega (arith, w.ends_before-ends.ensures, w.left-is)) w.is_first-is
      | else-is_kept w ↦ place_skipped c.args.text.now c.loop-place.left c.loop-place.is_first c.loop-place.place _ there c.loop-place.invariant _ _
          (is ∙ w.if-is_kept.false) w.left-is w.is_first-is
    ]

pub returns-clause-value : goal.returns-clause-value
returns-clause-value c = place_at_end c.args.text.now c.loop-place.left c.loop-place.is_first c.loop-place.place _
    (omega (arith, c.loop-place-test.false)) c.loop-place.auto.place-end c.loop-place.invariant
