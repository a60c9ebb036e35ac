use Rattle.std.proofs.Common.{◌≡◌, ◌∙◌, ◌-◌, ap, arith, drop, length, length-drop, take}
use Rattle.std.proofs.lemmas.List.{take_all}
use Rattle.dap_messages.specs.References.{address_of, begins_last}
use Rattle.dap_messages.proofs.references.last_in.Goals as goal

pub returns-then-starts_with : goal.returns-then-starts_with
unfolding begins_last
returns-then-starts_with c =
    let t = c.args.text.now in
    let all : take (length t - 1) (drop 1 t) ≡ drop 1 t = take_all (length t - 1) (drop 1 t) (omega (arith, length-drop 1 t)) in
    rw (← c.if-starts_with.ensures.value) (c.address_of.ensures ∙ ap address_of all)
