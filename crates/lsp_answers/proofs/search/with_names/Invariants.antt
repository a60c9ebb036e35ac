use Rattle.std.proofs.Common.{◌++◌, List, take}
use Rattle.std.specs.List.{flat_map}
use Rattle.json_messages.specs.ValueLists.{HasValues}
use Rattle.lsp_answers.specs.Search.{found_of}
use Rattle.lsp_answers.specs.Texts.{text_view}
use Rattle.name_uses.specs.Views.{use_views}
use Rattle.serde_json.specs.Data.{Data}
use Rattle.lsp_answers.proofs.search.with_names.Given as goal

abbrev pub invariant-loop-one : goal.invariant-loop-one
invariant-loop-one l = (ds : List Data) → HasValues ds l.fn.found
    → HasValues (ds ++ flat_map (found_of l.uri (text_view l.text) l.query) (use_views (take l.one-index l.one-items))) l.all
