use Rattle.std.proofs.Common.{◌≡◌, ◌∙◌, ◌+◌, ◌<◌, ◌≤◌, drop, get_or, length, ap, subst, sym, true, false}
use Rattle.std.specs.Prelude.{◌&&◌}
use Rattle.std.proofs.Math.ListN.{drop_of_length-le}
use Rattle.accesses.specs.Writing.{is_written}
use Rattle.word_trace.specs.Notes.{are_written}
use Rattle.word_trace.proofs.Counting.{written_end, written_on}
use Rattle.word_trace.proofs.notes.are_written.Goals as goal

pub returns-then-not-contains : goal.returns-then-not-contains
returns-then-not-contains c =
    let l = c.loop-address in
    let i = l.address-index in
    let xs = c.args.addresses.now.items in
    let cells = c.args.written.now in
    let value = c.as_slice-address-items.ensures.value in
    let within = subst (λ ys. i < length ys) value c.loop-address-test.true in
    let off : is_written cells (get_or xs i 0) ≡ false = ap (λ ys. is_written cells (get_or ys i 0)) (sym value) ∙ sym c.contains.ensures
    ∙ c.if-not-contains.true in
    sym (ap (λ b. b && are_written cells (drop (i + 1) xs)) off) ∙ sym (written_on cells i xs within) ∙ l.invariant

pub loop-address-preserved : goal.loop-address-preserved
loop-address-preserved c =
    let l = c.loop-address in
    let i = l.address-index in
    let xs = c.args.addresses.now.items in
    let cells = c.args.written.now in
    let value = c.as_slice-address-items.ensures.value in
    let within = subst (λ ys. i < length ys) value c.loop-address-test.true in
    let on : is_written cells (get_or xs i 0) ≡ true = ap (λ ys. is_written cells (get_or ys i 0)) (sym value) ∙ sym c.contains.ensures
    ∙ c.if-not-contains.false in
    sym (ap (λ b. b && are_written cells (drop (i + 1) xs)) on) ∙ sym (written_on cells i xs within) ∙ l.invariant

pub returns : goal.returns
returns c =
    let l = c.loop-address in
    let i = l.address-index in
    let xs = c.args.addresses.now.items in
    let cells = c.args.written.now in
    let past = subst (λ ys. length ys ≤ i) c.as_slice-address-items.ensures.value c.loop-address-test.false in
    sym (written_end cells (drop i xs) (drop_of_length-le xs past)) ∙ l.invariant
