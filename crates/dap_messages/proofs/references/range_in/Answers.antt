use Rattle.std.proofs.Common.{◌≡◌, ◌∙◌, ◌-◌, Bool, false, ap, arith, drop, if◌then◌else◌, length, length-drop, sym, take}
use Rattle.std.proofs.lemmas.Bool.{le-ltb}
use Rattle.std.proofs.lemmas.List.{take_all}
use Rattle.std.specs.Prelude.{nat_lt}
use Rattle.dap_messages.specs.References.{address_of, last_in, range_by}
use Rattle.dap_messages.proofs.references.range_in.Goals as goal

pub returns-else-id-lt7 : goal.returns-else-id-lt7
returns-else-id-lt7 c =
    let id = c.args.id.now in
    let all : take (length id - 6) (drop 6 id) ≡ drop 6 id = take_all (length id - 6) (drop 6 id) (omega (arith, length-drop 6 id)) in
    let long : nat_lt (length id) 7 ≡ false = le-ltb (length id) 7 (omega (arith, c.if-id-lt7.false)) in
    c.range_by-else-id-lt7.ensures ∙ (λ i. range_by (c.address_of.ensures i) ((c.last_in.ensures ∙ ap last_in all) i))
    ∙ sym (ap (λ (b : Bool). if b then range_by (address_of id) (address_of id) else range_by (address_of (take 6 id)) (last_in (drop 6 id))) long)
