use Rattle.std.proofs.Common.{◌≡◌, false, length, map, nat_lt, rules, subst, tests}
use Rattle.json_messages.specs.ValueLists.{HasValues}
use Rattle.lsp_answers.specs.Completion.{name_item}
use Rattle.lsp_answers.specs.Lists.{defined}
use Rattle.lsp_answers.specs.Meanings.{numbers_in}
use Rattle.lsp_answers.specs.Texts.{text_view}
use Rattle.model.specs.Names.{Definitions}
use Rattle.lsp_answers.proofs.completing.names_at.Goals as goal

pub lay_out-requires-clause-empty : goal.lay_out-requires-clause-empty
lay_out-requires-clause-empty c = c.new-symbols.ensures

pub returns-in-Ok : goal.returns-in-Ok
unfolding numbers_in
returns-in-Ok c =
    let t = text_view c.args.text.now in
    let short : nat_lt 1048576 (length t.source) ≡ false = search (tests, rules) in
    rw short (subst (λ (ds : Definitions). HasValues (map (name_item c.args.group.now ds t) (defined t.uses)) c.name_items.result)
    c.in-Ok.ensures.names c.name_items.ensures)
