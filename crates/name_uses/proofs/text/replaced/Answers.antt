use Rattle.std.proofs.Common.{◌≡◌, ◌-◌, arith, drop, length, refl, slice_index_or, take}
use Rattle.std.proofs.lemmas.Bool.{eq-eqb, ne_eqb}
use Rattle.name_uses.proofs.Bytes.{column_near, line_near, met_within, slice_is, step_done, text_done}
use Rattle.name_uses.specs.Renaming.{column_after, line_after}
use Rattle.name_uses.proofs.text.replaced.Goals.{then-byte-eq10, else-byte-eq10}
use Rattle.name_uses.proofs.text.replaced.Goals as goal

pub loop-byte-preserved : goal.loop-byte-preserved
loop-byte-preserved c =
    let uses = c.args.uses.now in
    let next = c.loop-byte.next in
    let given = take (length uses - next) (drop next uses) in
    let b = slice_index_or c.args.source.now c.loop-byte.byte-index 0 in
    let line : c.if-byte-eq10.place.line ≡ line_after b c.loop-byte.place.line = elim c.if-byte-eq10.branch [
      | then-byte-eq10 w ↦ rw (w.place-is, eq-eqb b 10 w.if-byte-eq10.true) refl
      | else-byte-eq10 w ↦ rw (w.place-is, ne_eqb b 10 w.if-byte-eq10.false) refl
    ] in
    let column : c.if-byte-eq10.place.column ≡ column_after b c.loop-byte.place.column = elim c.if-byte-eq10.branch [
      | then-byte-eq10 w ↦ rw (w.place-is, eq-eqb b 10 w.if-byte-eq10.true) refl
      | else-byte-eq10 w ↦ rw (w.place-is, ne_eqb b 10 w.if-byte-eq10.false) refl
    ] in
    record {
      written = step_done c.args.word.now c.args.source.now c.loop-byte.byte-index uses given next c.in_ok-more.met c.loop-byte.place.line
          c.loop-byte.place.column c.loop-byte.left _ _ _ c.loop-byte.text.items _ _
          (omega (arith, c.loop-byte-test.true)) (slice_is uses next) line column c.in_ok-more.ensures.text c.in_ok-more.ensures.rest
          c.in_ok-more.ensures.left c.loop-byte.invariant.written;
      lines = omega (arith, line, line_near b c.loop-byte.place.line, c.loop-byte.invariant.lines);
      columns = omega (arith, column, column_near b c.loop-byte.place.column, c.loop-byte.invariant.columns);
      within = met_within uses given next c.in_ok-more.met c.loop-byte.invariant.within (slice_is uses next) c.in_ok-more.ensures.within;
    }

pub returns : goal.returns
returns c = text_done c.args.word.now c.args.source.now c.loop-byte.byte-index _ _ _ _ _ _ (omega (arith, c.loop-byte-test.false)) c.loop-byte.invariant.written
