use Rattle.std.proofs.Common.{◌∙◌, ◌-◌, ◌+◌, sym, arith, length}
use Rattle.t65_reader.proofs.Passed.{passed}
use Rattle.t65_reader.proofs.Pieces.{last_piece, no_piece_left, piece_read, piece_refused}
use Rattle.t65_reader.proofs.sequence.push_pieces.Goals as goal

pub returns-then-is_last-clause-ok : goal.returns-then-is_last-clause-ok
returns-then-is_last-clause-ok c = sym c.loop.invariant.read ∙ last_piece _ _ _ _ _ _ (sym c.is_last.ensures ∙ c.if-is_last.true)

pub loop-preserved : goal.loop-preserved
loop-preserved c = record {
  read = piece_read (length c.args.text.now - c.loop.counter) (length c.args.text.now - (c.loop.counter + 1)) _ _ _ _ _ _ _
      (omega arith) (sym c.is_last.ensures ∙ c.if-is_last.false) c.in_ok-rest.ensures.ok ∙ c.loop.invariant.read;
}

pub returns-in_err-rest-clause-err : goal.returns-in_err-rest-clause-err
returns-in_err-rest-clause-err c = passed _ c.from_residual.result c.in_err-rest.field-0.0 c.from_residual.ensures.1
    (λ other. sym c.loop.invariant.read ∙ piece_refused (length c.args.text.now - c.loop.counter) (length c.args.text.now - (c.loop.counter + 1)) _ _
    _ _ _ _ (omega arith) (sym c.is_last.ensures ∙ c.if-is_last.false) (c.in_err-rest.ensures.err other))

pub returns-clause-ok : goal.returns-clause-ok
returns-clause-ok c = sym c.loop.invariant.read ∙ no_piece_left (length c.args.text.now - c.loop.counter) _ _ _ _ _ (omega arith)
