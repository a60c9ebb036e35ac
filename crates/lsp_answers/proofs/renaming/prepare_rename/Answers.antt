use Rattle.std.proofs.Common.{rules, ◌≡◌, List, ℕ, Some}
use Rattle.name_uses.specs.Faulty.{faulty_line}
use Rattle.name_uses.specs.Views.{use_view}
use Rattle.lsp_answers.specs.Renames.{IsKeptAt}
use Rattle.lsp_answers.specs.Texts.{name_at, text_view}
use Rattle.lsp_answers.proofs.StillFaulty.{kept_by, refused_by}
use Rattle.lsp_answers.proofs.renaming.prepare_rename.Goals as goal

pub returns-in-Ok-Some-clause-kept : goal.returns-in-Ok-Some-clause-kept
returns-in-Ok-Some-clause-kept c =
    let t = text_view c.args.text.now in
    let found = name_at t c.args.line c.args.character in
    let u = use_view c.in-Some.one in
    let here : found ≡ Some u = search rules in
    let faulty : faulty_line c.args.map.now.profile t.source u.text u.text ≡ Some c.in-Ok-Some.number = search rules in
    refused_by ((name : List ℕ) → IsKeptAt c.args.map.now t found name) c.refused-in-Ok-Some.result
    (kept_by c.args.map.now t found u c.in-Ok-Some.number here faulty)
