use Rattle.std.proofs.Common.{◌≡◌, ◌++◌, List}
use Rattle.json_messages.specs.ValueLists.{HasValues}
use Rattle.lsp_hints.proofs.PaintSteps.{counts_left}
use Rattle.lsp_hints.specs.Painted.{counted}
use Rattle.serde_json.specs.Data.{Data}
use Rattle.lsp_hints.proofs.numbers.painted.Given as goal

abbrev pub invariant-loop-paint : goal.invariant-loop-paint
invariant-loop-paint l = (done : List Data) × HasValues done l.counts
    × (done ++ counts_left l.line l.start l.paint-items l.paint-index ≡ counted 0 0 l.paint-items)
