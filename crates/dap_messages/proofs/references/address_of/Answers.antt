use Rattle.std.proofs.Common.{◌≡◌, ◌∙◌, ◌-◌, ap, arith, drop, length, length-drop, take}
use Rattle.std.proofs.lemmas.List.{take_all}
use Rattle.model.specs.Commands as commands
use Rattle.dap_messages.specs.References.{begins_reference}
use Rattle.dap_messages.proofs.references.address_of.Goals as goal

pub returns-then-starts_with : goal.returns-then-starts_with
unfolding begins_reference
returns-then-starts_with c =
    let r = c.args.reference.now in
    let all : take (length r - 2) (drop 2 r) ≡ drop 2 r = take_all (length r - 2) (drop 2 r) (omega (arith, length-drop 2 r)) in
    rw (← c.if-starts_with.ensures.value) (c.address_of.ensures ∙ ap commands.address_of all)
