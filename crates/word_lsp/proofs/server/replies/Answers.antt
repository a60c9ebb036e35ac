use Rattle.std.proofs.Common.{◌≡◌, ◌∙◌, ◌∷◌, [], Bool, IfOk, Option, ap, false, map, refl, subst, sym, true}
use Rattle.std.proofs.lemmas.Result.{IfOk-weaker}
use Rattle.lsp_messages.specs.Settings.{SettingsView}
use Rattle.lsp_messages.specs.Views.{request_view}
use Rattle.serde_json.specs.View.{view}
use Rattle.word_lsp.proofs.Chained.{chained}
use Rattle.word_lsp.specs.Messages.{AreReplies, AreShownIf, is_answer}
use Rattle.word_lsp.specs.Settings.{is_wrong, settings_asked}
use Rattle.word_lsp.specs.State.{server_view}
use Rattle.word_lsp.proofs.server.replies.Goals as goal

pub returns-in_ok-given : goal.returns-in_ok-given
returns-in_ok-given c =
    let s = server_view c.args.server.now in
    let request = request_view c.args.request in
    let other : is_answer (view c.args.message.now) ≡ false = sym c.is_answer.ensures ∙ c.if-is_answer.false in
    let wrong : is_wrong c.args.words.now (settings_asked s.phase request) ≡ true
    = ap (λ (o : Option SettingsView). is_wrong c.args.words.now o) (sym c.settings_asked-settings.ensures) ∙ sym c.is_wrong.ensures ∙ c.if-is_wrong.true in
    subst (λ (b : Bool). IfOk c.two.result (λ vs. AreReplies b c.args.words.now s (view c.args.id.now) request (map view vs.items))) (sym other)
    (IfOk-weaker c.two.result _ _
    (λ vs h. (
      view c.in_ok-given.given,
      view h.0 ∷ [],
      c.in_ok-given.ensures,
      subst (λ (b : Bool). AreShownIf b (view h.0 ∷ [])) (sym wrong)
          (view h.0, h.1, refl),
      h.2,
    ))
    (chained c.showing.result c.two.result _ _ c.showing.ensures c.two.ensures))

pub returns-else-is_wrong : goal.returns-else-is_wrong
returns-else-is_wrong c =
    let s = server_view c.args.server.now in
    let request = request_view c.args.request in
    let other : is_answer (view c.args.message.now) ≡ false = sym c.is_answer.ensures ∙ c.if-is_answer.false in
    let right : is_wrong c.args.words.now (settings_asked s.phase request) ≡ false
    = ap (λ (o : Option SettingsView). is_wrong c.args.words.now o) (sym c.settings_asked-settings.ensures) ∙ sym c.is_wrong.ensures ∙ c.if-is_wrong.false in
    subst (λ (b : Bool). IfOk c.one.result (λ vs. AreReplies b c.args.words.now s (view c.args.id.now) request (map view vs.items))) (sym other)
    (IfOk-weaker c.one.result _ _ (λ vs h. (view h.0, [], h.1, subst (λ (b : Bool). AreShownIf b []) (sym right) refl, h.2))
    (chained c.answer_on-given.result c.one.result _ _ c.answer_on-given.ensures c.one.ensures))
