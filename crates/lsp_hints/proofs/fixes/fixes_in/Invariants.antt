use Rattle.std.proofs.Common.{◌≡◌, ◌++◌, List, drop}
use Rattle.std.specs.List.{flat_map}
use Rattle.json_messages.specs.ValueLists.{HasValues}
use Rattle.lsp_answers.specs.Texts.{text_view}
use Rattle.lsp_hints.specs.Fixes.{fixes_between}
use Rattle.serde_json.specs.Data.{Data}
use Rattle.lsp_hints.proofs.fixes.fixes_in.Given as goal

abbrev pub invariant-loop-one : goal.invariant-loop-one
invariant-loop-one l = (done : List Data) × HasValues done l.fixes
    × (done ++ flat_map (fixes_between l.uri (text_view l.text) l.between) (drop l.one-index l.one-items)
    ≡ flat_map (fixes_between l.uri (text_view l.text) l.between) l.one-items)
