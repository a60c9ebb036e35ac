use Rattle.std.proofs.Common.{◌≡◌, ◌∙◌, ◌++◌, ◌+◌, ◌-◌, suc, [], sym, ap, arith}
use Rattle.std.specs.Prelude.{codes}
use Rattle.trace_rows.specs.Counts.{address_row, elsewhere_rows, with_head}
use Rattle.trace_rows.proofs.Tables.{elsewhere, next_row, no_addresses, no_rest, passed, with_rest}
use Rattle.trace_rows.proofs.counts.push_elsewhere.Goals as goal

pub loop-place-preserved-then-not-is_elsewhere : goal.loop-place-preserved-then-not-is_elsewhere
loop-place-preserved-then-not-is_elsewhere c =
    let text = c.loop-place.text.items in
    let place = c.loop-place.place in
    let left : 65536 - place ≡ suc (65536 - (place + 1)) = omega arith in
    let rows = passed c.args.sites.now c.args.tally.now place (65536 - place) (65536 - (place + 1)) left
    (sym c.is_elsewhere.ensures ∙ c.if-not-is_elsewhere.true) in
    sym (ap (with_rest c.loop-place.is_first text (with_head (codes "address") text)) rows) ∙ c.loop-place.invariant

pub loop-place-preserved : goal.loop-place-preserved
loop-place-preserved c =
    let tally = c.args.tally.now in
    let text = c.loop-place.text.items in
    let place = c.loop-place.place in
    let left : 65536 - place ≡ suc (65536 - (place + 1)) = omega arith in
    let rows = elsewhere c.args.sites.now tally place (65536 - place) (65536 - (place + 1)) left (sym c.is_elsewhere.ensures ∙ c.if-not-is_elsewhere.false) in
    next_row c.loop-place.is_first text (with_head (codes "address") text) c.push_address_row.new.text.items [] (address_row tally place)
    (elsewhere_rows c.args.sites.now tally (place + 1) (65536 - (place + 1)))
    (c.in_ok-push_address_row.ensures ∙ ap (λ t. t ++ address_row tally place) c.in_ok-push_elsewhere_head.ensures)
    ∙ sym (ap (with_rest c.loop-place.is_first text (with_head (codes "address") text)) rows) ∙ c.loop-place.invariant

pub returns : goal.returns
returns c =
    let text = c.loop-place.text.items in
    sym (no_rest c.loop-place.is_first text (with_head (codes "address") text) _
    (no_addresses c.args.sites.now c.args.tally.now c.loop-place.place (65536 - c.loop-place.place) (omega arith))) ∙ c.loop-place.invariant
