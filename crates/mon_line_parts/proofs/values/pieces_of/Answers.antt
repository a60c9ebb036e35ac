use Rattle.std.proofs.Common.{◌∙◌, ◌-◌, ◌+◌, sym, ap, arith, length}
use Rattle.mon_line_parts.specs.Reading.{is_empty}
use Rattle.mon_line_parts.proofs.Sums.{no_piece_left, piece_refused, pieces_end, pieces_more}
use Rattle.mon_line_parts.proofs.values.pieces_of.Goals as goal

pub returns-in-Err-clause-err : goal.returns-in-Err-clause-err
returns-in-Err-clause-err c = c.loop.invariant.read ∙ piece_refused (length c.args.text.now + 1 - c.loop.counter)
    (length c.args.text.now + 1 - (c.loop.counter + 1)) _ _ _ _ (omega arith) c.in-Err.ensures.err

pub returns-then-is_empty-clause-ok : goal.returns-then-is_empty-clause-ok
returns-then-is_empty-clause-ok c =
    rw c.past-rest.ensures (c.loop.invariant.read
    ∙ pieces_end (length c.args.text.now + 1 - c.loop.counter) (length c.args.text.now + 1 - (c.loop.counter + 1)) c.args.places.now
    c.loop.found.items c.loop.rest.now c.piece_of.new.found.items c.in-Ok.behind.now (omega arith) c.in-Ok.ensures.ok
    (ap is_empty (sym c.past-rest.ensures) ∙ (sym c.is_empty.ensures ∙ c.if-is_empty.true)))

pub loop-preserved : goal.loop-preserved
loop-preserved c = record {
  read = rw c.past-rest.ensures (c.loop.invariant.read
      ∙ pieces_more (length c.args.text.now + 1 - c.loop.counter) (length c.args.text.now + 1 - (c.loop.counter + 1)) c.args.places.now
      c.loop.found.items c.loop.rest.now c.piece_of.new.found.items c.in-Ok.behind.now (omega arith) c.in-Ok.ensures.ok
      (ap is_empty (sym c.past-rest.ensures) ∙ (sym c.is_empty.ensures ∙ c.if-is_empty.false)));
}

pub returns-clause-ok : goal.returns-clause-ok
returns-clause-ok c = c.loop.invariant.read ∙ no_piece_left (length c.args.text.now + 1 - c.loop.counter) _ _ _ (omega arith)
