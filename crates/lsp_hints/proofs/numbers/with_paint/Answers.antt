use Rattle.std.proofs.Common.{◌≡◌, ◌∷◌, ◌++◌, [], List, append_assoc, rules, subst, tests}
use Rattle.json_messages.specs.ValueLists.{HasValues}
use Rattle.json_messages.specs.declared.value_list.ValueList.{ValueList}
use Rattle.lsp_hints.specs.Painted.{further}
use Rattle.serde_json.specs.Data.{Data}
use Rattle.lsp_hints.proofs.numbers.with_paint.Goals.{then-paint-line, else-paint-line}
use Rattle.lsp_hints.proofs.numbers.with_paint.Goals as goal

-- five put behind others one after another
five : (ds : List Data) (a b c d e : Data) (list : ValueList) → HasValues (((((ds ++ a ∷ []) ++ b ∷ []) ++ c ∷ []) ++ d ∷ []) ++ e ∷ []) list
    → HasValues (ds ++ a ∷ b ∷ c ∷ d ∷ e ∷ []) list
five ds a b c d e list has = subst (λ (es : List Data). HasValues es list) (simp append_assoc) has

pub returns : goal.returns
returns c ds has =
    let is : c.if-paint-line.further ≡ further c.args.line c.args.start c.args.paint.now = elim c.if-paint-line.branch [
      | then-paint-line w ↦ rw w.further-is (search (tests, rules))
      | else-paint-line w ↦ rw w.further-is (search (tests, rules))
    ] in
    five ds _ _ _ _ _ _ (c.with-5.ensures _ _ (c.with-4.ensures _ _
    (c.with-3.ensures _ _ (c.with-2.ensures _ _ (c.with.ensures _ _ has (search rules)) (search rules)) (search rules)) (search rules)) (search rules))
