use Rattle.std.proofs.Common.{◌∙◌, ◌∷◌, ◌++◌, [], List, if◌then◌else◌, length, subst, sym}
use Rattle.std.specs.Str.Lossy.{utf8_lossy}
use Rattle.dap_messages.specs.SeenAnswers.{SeenItem, completion_item}
use Rattle.dap_messages.specs.ItemLists.{HasItems}
use Rattle.dap_session.proofs.completion.with_begun.Goals as goal

pub returns-then-begins_with : goal.returns-then-begins_with
returns-then-begins_with c = λ ds has.
    let begun = sym c.if-begins_with.true ∙ c.begins_with.ensures in
    let here = completion_item (utf8_lossy c.args.name.now) c.args.start (length c.args.typed.now) ∷ [] in
    subst (λ (es : List SeenItem). HasItems (ds ++ es) c.with.result) (λ i. if begun i then here else []) (c.with.ensures ds _ has c.completion_item.ensures)
