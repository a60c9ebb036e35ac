use Rattle.std.proofs.Common.{◌≡◌, ◌++◌, List, drop}
use Rattle.std.specs.List.{flat_map}
use Rattle.json_messages.specs.ValueLists.{HasValues}
use Rattle.lsp_hints.specs.Signatures.{form_of}
use Rattle.serde_json.specs.Data.{Data}
use Rattle.lsp_hints.proofs.signatures.forms_in.Given as goal

abbrev pub invariant-loop-mode : goal.invariant-loop-mode
invariant-loop-mode l = (done : List Data) × HasValues done l.forms
    × (done ++ flat_map (form_of l.profile l.mnemonic) (drop l.mode-index l.modes) ≡ flat_map (form_of l.profile l.mnemonic) l.modes)
