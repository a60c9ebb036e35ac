use Rattle.std.proofs.Common.{◌≡◌, ◌++◌, List}
use Rattle.json_messages.specs.ValueLists.{HasValues}
use Rattle.lsp_hints.proofs.HintSteps.{hints_left}
use Rattle.lsp_hints.specs.Hints.{hints_from}
use Rattle.serde_json.specs.Data.{Data}
use Rattle.source_faults.specs.Views.{found_all}
use Rattle.source_notes.specs.Lines.{texts_of}
use Rattle.lsp_hints.proofs.hints.hints_in.Given as goal

abbrev pub invariant-loop-index : goal.invariant-loop-index
invariant-loop-index l = (done : List Data) × HasValues done l.hints
    × (done ++ hints_left l.profile (texts_of l.lines) l.between l.one-items l.index
    ≡ hints_from l.profile (texts_of l.lines) l.between 0 (found_all l.one-items))
