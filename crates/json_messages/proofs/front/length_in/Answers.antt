use Rattle.std.proofs.Common.{◌≡◌, ◌∙◌, ◌&&◌, ◌-◌, drop, false, length, refl, sym, take, true}
use Rattle.json_messages.proofs.Fronts.{length_found, length_step}
use Rattle.json_messages.specs.Messages.{begins_field}
use Rattle.json_messages.proofs.front.length_in.Goals.{else-begins-via-then-begins+else-begins_field, else-begins-via-else-begins}
use Rattle.json_messages.proofs.front.length_in.Goals as goal

pub returns-then-begins_field-clause-value : goal.returns-then-begins_field-clause-value
returns-then-begins_field-clause-value c =
    let h = c.args.header.now in
    let i = c.loop-index.index in
    let is : (c.loop-index.begins && begins_field (take (length h - i) (drop i h))) ≡ true = rw c.if-begins.true (sym c.if-begins_field.ensures) in
    c.value_in.ensures.value ∙ sym (c.loop-index.invariant ∙ length_found h i c.loop-index.begins c.loop-index-test.true is)

pub loop-index-preserved : goal.loop-index-preserved
loop-index-preserved c =
    let h = c.args.header.now in
    let i = c.loop-index.index in
    let is : (c.loop-index.begins && begins_field (take (length h - i) (drop i h))) ≡ false = elim c.else-begins.branch [
      | else-begins-via-then-begins+else-begins_field w ↦ rw w.if-begins.true (sym w.if-begins_field.ensures)
      | else-begins-via-else-begins w ↦ rw w.if-begins.false refl
    ] in
    c.loop-index.invariant ∙ length_step h i c.loop-index.begins c.loop-index-test.true is
