use Rattle.std.proofs.Common.{◌∙◌, ◌-◌, ap, get_or, ℕ}
use Rattle.lsp_messages.proofs.ColumnSteps.{here, not_here, passed, reached}
use Rattle.lsp_messages.proofs.columns.column_of.Goals as goal

pub returns-then-units-gt0-clause-column : goal.returns-then-units-gt0-clause-column
returns-then-units-gt0-clause-column c =
    let left = c.loop-index.left in
    let byte = get_or c.args.line.now c.loop-index.index 0 in
    reached left c.args.line.now c.loop-index.index _ c.loop-index-test.true
    (here left c.units_of-units.result byte c.if-left-eq0.true c.if-units-gt0.true c.units_of-units.ensures) c.loop-index.invariant

pub loop-index-preserved : goal.loop-index-preserved
loop-index-preserved c =
    let left = c.loop-index.left in
    let byte = get_or c.args.line.now c.loop-index.index 0 in
    passed left c.args.line.now c.loop-index.index _ _ c.loop-index-test.true
    (not_here left c.units_of-units.result byte c.else-left-eq0.either c.units_of-units.ensures)
    (c.saturating_sub-left.ensures ∙ ap (λ (units : ℕ). left - units) c.units_of-units.ensures) c.loop-index.invariant
