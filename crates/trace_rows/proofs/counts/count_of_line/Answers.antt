use Rattle.std.proofs.Common.{◌≡◌, ◌∙◌, ◌-◌, ◌≤◌, ap, arith, inl, inr}
use Rattle.std.proofs.lemmas.Bool.{cases_lt}
use Rattle.trace_rows.specs.Counts.{cycles_from}
use Rattle.trace_rows.proofs.Tables.{count_is}
use Rattle.trace_rows.proofs.counts.count_of_line.Goals as goal

pub returns : goal.returns
returns c =
    let offset = c.loop-offset.offset in
    let len = c.args.line.now.len in
    let past : len ≤ offset = c.loop-offset-test.false in
    let last : offset - 1 ≡ len - 1 = elim (cases_lt len 1) [
      | inl below ↦ (let one : offset ≡ 1 = c.loop-offset.invariant.none below in omega arith)
      | inr le ↦ (let within : offset ≤ len = c.loop-offset.auto.offset-end le in omega arith)
    ] in
    count_is c.loop-offset.count _ _ c.loop-offset.invariant.visits
    (c.loop-offset.invariant.cycles ∙ ap (cycles_from c.args.tally.now c.args.line.now.address) last)
