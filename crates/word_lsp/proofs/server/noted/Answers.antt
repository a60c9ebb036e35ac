use Rattle.std.proofs.Common.{◌≡◌, ◌∙◌, Bool, IfOk, List, Option, ap, ap₂, false, map, subst, sym, true}
use Rattle.std.proofs.lemmas.Result.{IfOk-weaker}
use Rattle.lsp_messages.specs.Settings.{SettingsView}
use Rattle.lsp_messages.specs.Views.{request_view}
use Rattle.model.specs.State.{Map}
use Rattle.serde_json.specs.View.{view}
use Rattle.word_lsp.specs.Messages.{AreNotices, AreToldIn, has_method}
use Rattle.word_lsp.specs.Settings.{chosen_after}
use Rattle.word_lsp.specs.State.{Opened, State, server_view}
use Rattle.word_lsp.proofs.server.noted.Goals as goal

pub returns-then-has-clause-state : goal.returns-then-has-clause-state
returns-then-has-clause-state c =
    let old = c.args.server.now in
    let state : Option Map → List Opened → State = λ chosen documents. record { phase = old.phase; chosen = chosen; documents = documents } in
    let set = c.chosen_after-server.ensures ∙ ap (λ (o : Option SettingsView). chosen_after c.args.words.now old.chosen o) c.settings_noted-settings.ensures in
    ap₂ state set c.in_ok-told.ensures.documents

pub returns-else-has-clause-state : goal.returns-else-has-clause-state
returns-else-has-clause-state c =
    let old = c.args.server.now in
    let state : Option Map → List Opened → State = λ chosen documents. record { phase = old.phase; chosen = chosen; documents = documents } in
    let set = c.chosen_after-server.ensures ∙ ap (λ (o : Option SettingsView). chosen_after c.args.words.now old.chosen o) c.settings_noted-settings.ensures in
    IfOk-weaker c.refused.result _ _ (λ vs h. ap₂ state set c.in_ok-told.ensures.documents) c.refused.ensures

-- ---- what is told, on the map in use

pub returns-then-has-clause-told : goal.returns-then-has-clause-told
returns-then-has-clause-told c =
    let old = server_view c.args.server.now in
    let request = request_view c.args.request in
    let vs = map view c.in_ok-told.told.items in
    let method : has_method (view c.args.message.now) ≡ true = sym c.has.ensures ∙ c.if-has.true in
    subst (λ (b : Bool). AreNotices b c.args.words.now old request vs) (sym method)
    (subst (λ (m : Map). AreToldIn c.args.words.now m old.phase old.documents request vs) c.map_in-map.ensures c.in_ok-told.ensures.told)

pub returns-else-has-clause-told : goal.returns-else-has-clause-told
returns-else-has-clause-told c =
    let old = server_view c.args.server.now in
    let request = request_view c.args.request in
    let none : has_method (view c.args.message.now) ≡ false = sym c.has.ensures ∙ c.if-has.false in
    subst (λ (b : Bool). IfOk c.refused.result (λ vs. AreNotices b c.args.words.now old request (map view vs.items))) (sym none) c.refused.ensures
