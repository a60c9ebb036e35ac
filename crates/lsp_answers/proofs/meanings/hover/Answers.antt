use Rattle.std.proofs.Common.{◌≡◌, ◌∙◌, IfOk, ap, false, length, nat_lt, rules, subst, tests}
use Rattle.lsp_answers.specs.Meanings.{found_in, numbers_in, of_name}
use Rattle.lsp_answers.specs.Texts.{text_view}
use Rattle.model.specs.Names.{Definitions}
use Rattle.name_uses.specs.Views.{use_view}
use Rattle.serde_json.specs.View.{view}
use Rattle.source_faults.specs.Views.{found_all}
use Rattle.lsp_answers.proofs.meanings.hover.Goals as goal

pub lay_out-requires-clause-empty : goal.lay_out-requires-clause-empty
lay_out-requires-clause-empty c = c.new-symbols.ensures

pub line_said-requires : goal.line_said-requires
unfolding found_in
line_said-requires c = ap found_all c.deref.ensures.value ∙ c.in-Ok.ensures.found

pub returns-in-Some : goal.returns-in-Some
unfolding numbers_in
returns-in-Some c =
    let t = text_view c.args.text.now in
    let u = use_view c.in-Some.one in
    let short : nat_lt 1048576 (length t.source) ≡ false = search (tests, rules) in
    let told : IfOk c.name_said.result (λ v. view v ≡ of_name c.args.markdown c.args.written.now _ t u) =
    subst (λ (ds : Definitions). IfOk c.name_said.result (λ v. view v ≡ of_name c.args.markdown c.args.written.now ds t u)) c.in-Ok.ensures.names
    c.name_said.ensures in
    rw (short, ← c.in-Some.ensures) told
