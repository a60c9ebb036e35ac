use Rattle.std.proofs.Common.{◌∙◌, sym, ap, ℕ}
use Rattle.std.specs.Prelude.{Option, option_map}
use Rattle.std.specs.Borrow.{Bor}
use Rattle.t65_reader.specs.RowText.{row_seen}
use Rattle.t65_reader.specs.declared.row.Row.{Row}
use Rattle.t65_runner.specs.Passes.{rows_seen}
use Rattle.t65_runner.proofs.Parts.{no_row_left, row_left_out, row_pushed}
use Rattle.t65_runner.proofs.around.rows_of.Goals as goal
use Rattle.t65_runner.proofs.around.rows_of.Goals.{in-Some+in_ok-push-in-Some, in-None}

pub loop-line-preserved : goal.loop-line-preserved
loop-line-preserved c = elim c.match-row_in.branch [
  | in-Some+in_ok-push-in-Some w ↦ rw w.found-is (
      row_pushed c.args.lines.now c.loop-line.line-index c.args.part _ w.in-Some.row c.loop-line.found.items w.push.new.self.items _
      c.loop-line-test.true c.line-item.is
      (sym c.row_in.ensures ∙ ap (λ (r : Option (Bor (ℕ × Row))). option_map row_seen r) w.in-Some.is) w.in_ok-push-in-Some.ensures.items c.loop-line.invariant)
  | in-None w ↦ rw w.found-is (
      row_left_out c.args.lines.now c.loop-line.line-index c.args.part c.line-item.result (rows_seen c.loop-line.found.items) _ c.loop-line-test.true
      c.line-item.is
      (sym c.row_in.ensures ∙ ap (λ (r : Option (Bor (ℕ × Row))). option_map row_seen r) w.in-None.is) c.loop-line.invariant)
]

pub returns : goal.returns
returns c = no_row_left c.args.lines.now c.loop-line.line-index c.args.part (rows_seen c.loop-line.found.items) _ c.loop-line-test.false c.loop-line.invariant
