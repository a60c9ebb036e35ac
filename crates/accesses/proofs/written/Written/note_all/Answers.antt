use Rattle.std.proofs.Common.{◌∙◌, ◌<◌, ◌≤◌, drop, get_or, length, ap, subst, sym, true}
use Rattle.std.specs.Prelude.{slice_set}
use Rattle.std.proofs.Math.ListN.{drop_of_length-le}
use Rattle.accesses.proofs.Bytes.{bytes_none, bytes_on}
use Rattle.accesses.proofs.written.Written.note_all.Goals as goal

pub loop-address-preserved : goal.loop-address-preserved
loop-address-preserved c =
    let l = c.loop-address in
    let i = l.address-index in
    let value = c.as_slice-address-items.ensures.value in
    let within = subst (λ xs. i < length xs) value c.loop-address-test.true in
    let here = c.note.ensures ∙ ap (λ xs. slice_set l.self (get_or xs i 0) true) value in
    bytes_on l.self c.note.new.self i c.args.addresses.now.items within here ∙ l.invariant

pub returns : goal.returns
returns c =
    let l = c.loop-address in
    let i = l.address-index in
    let xs = c.args.addresses.now.items in
    let past = subst (λ ys. length ys ≤ i) c.as_slice-address-items.ensures.value c.loop-address-test.false in
    sym (bytes_none l.self (drop i xs) (drop_of_length-le xs past)) ∙ l.invariant
