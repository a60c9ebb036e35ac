use Rattle.std.proofs.Common.{◌∙◌, [], List, ℕ, None, Option, Some, inl, inr, map, refl, subst, sym}
use Rattle.std.proofs.KnownBytes.{Appends-nil}
use Rattle.std.specs.Io.KnownBytes.{Appends}
use Rattle.std.specs.Option.{option_map}
use Rattle.json_messages.specs.Bodies.{IsMessage}
use Rattle.word_lsp.proofs.Chained.{both, through}
use Rattle.word_lsp.proofs.Written.{written_none}
use Rattle.word_lsp.specs.Messages.{DoesUnless}
use Rattle.word_lsp.specs.Sessions.{Answers}
use Rattle.word_lsp.specs.State.{server_view}
use Rattle.serde_json.specs.View.{view}
use Rattle.serde_json.specs.declared.value.Value.{Value}
use Rattle.word_lsp.proofs.serving.answer.Goals as goal

pub returns-in-Some : goal.returns-in-Some
unfolding Answers
returns-in-Some g c =
    let message = view c.in-Ok-Some.message in
    let old = server_view c.args.server.now in
    let found = subst (λ (found : Option Value). IsMessage c.deref.result.now (option_map view found)) c.in-Ok-Some.field-0-is c.in-Ok-Some.ensures in
    let is = subst (λ (body : List ℕ). IsMessage body (Some message)) c.deref.ensures.value found in
    let ends = subst (λ (end : Option ℕ). DoesUnless end c.args.map.now old message old [] (Some c.in-Some.status))
    (sym c.in-Some.is ∙ c.asks_for_end.ensures) (refl, refl, refl) in
    ([], (Some message, is, [], ends, written_none), Appends-nil _)

pub returns-in-Ok-Some : goal.returns-in-Ok-Some
unfolding Answers
returns-in-Ok-Some g c =
    let message = view c.in-Ok-Some.message in
    let old = server_view c.args.server.now in
    let new = server_view c.serve.new.server in
    let body = c.args.body.items in
    let found = subst (λ (found : Option Value). IsMessage c.deref.result.now (option_map view found)) c.in-Ok-Some.field-0-is c.in-Ok-Some.ensures in
    let is = subst (λ (body : List ℕ). IsMessage body (Some message)) c.deref.ensures.value found in
    let ending = sym c.in-None.is ∙ c.asks_for_end.ensures in
    through c.serve.result c.write_values.result _ _ _ _ _ _ _ (both c.serve.result _ _ c.serve.ensures.state c.serve.ensures.answers) c.write_values.ensures
    (λ values done end h.
    let vs = map view values.items in
    let does = subst (λ (end : Option ℕ). DoesUnless end c.args.map.now old message new vs None) ending (done.0, done.1, refl) in
    (h.1, subst (λ (end : Option ℕ). Answers c.args.map.now body old new end h.1) (sym h.0) (Some message, is, vs, does, h.2), h.3))
    (λ values done fault h.
    let vs = map view values.items in
    let does = subst (λ (end : Option ℕ). DoesUnless end c.args.map.now old message new vs None) ending (done.0, done.1, refl) in
    let all : Answers c.args.map.now body old new None h.1 = (Some message, is, vs, does, h.2) in
    (h.0, h.3.0, inr (new, None, h.1, h.3.1, all, h.3.2), h.3.3))
    (λ kept. (tt, [], inl refl, subst (λ o. Appends (g.O.Write.contents c.args.output.now) (g.O.Write.contents o) []) (sym kept) (Appends-nil _)))

pub returns-in-Ok-None : goal.returns-in-Ok-None
unfolding Answers
returns-in-Ok-None g c =
    let state = server_view c.args.server.now in
    let body = c.args.body.items in
    let found = subst (λ (found : Option Value). IsMessage c.deref.result.now (option_map view found)) c.in-Ok-None.field-0-is c.in-Ok-None.ensures in
    let is = subst (λ (body : List ℕ). IsMessage body None) c.deref.ensures.value found in
    through c.refused.result c.write_values-in-Ok-None.result _ _ _ _ _ _ _ c.refused.ensures c.write_values-in-Ok-None.ensures
    (λ values done end h. (
      h.1,
      subst (λ (end : Option ℕ). Answers c.args.map.now body state state end h.1) (sym h.0)
          (None, is, map view values.items, (refl, done, refl), h.2),
      h.3,
    ))
    (λ values done fault h.
    let all : Answers c.args.map.now body state state None h.1 = (None, is, map view values.items, (refl, done, refl), h.2) in
    (h.0, h.3.0, inr (state, None, h.1, h.3.1, all, h.3.2), h.3.3))
    (λ kept. (tt, [], inl refl, subst (λ o. Appends (g.O.Write.contents c.args.output.now) (g.O.Write.contents o) []) (sym kept) (Appends-nil _)))

pub returns : goal.returns
returns g c = (tt, [], inl refl, Appends-nil _)
