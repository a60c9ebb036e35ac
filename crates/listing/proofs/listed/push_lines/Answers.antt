use Rattle.std.proofs.Common.{◌≤◌, length, true-eqb, sym, arith, ap, ◌≡◌, List, ℕ, ◌∙◌}
use Rattle.model.specs.TextLines.{lines_of}
use Rattle.model.specs.Listing.{bytes_at}
use Rattle.listing.proofs.RowsLeft.{bytes_few, no_line, no_place}
use Rattle.listing.proofs.listed.push_lines.Goals as goal

pub returns-then-is_empty : goal.returns-then-is_empty
returns-then-is_empty c = no_line c.args.cells.now c.loop-span.out.items c.loop-span.rest.now c.args.spans.now c.loop-span.span-index _
    (true-eqb _ 0 (sym (sym c.is_empty.ensures ∙ c.if-is_empty.true))) c.loop-span.invariant

pub push_line-requires : goal.push_line-requires
push_line-requires c =
    let span = c.span-item.result in
    let few : length (bytes_at c.args.cells.now span.address span.count) ≤ length c.args.cells.now = bytes_few c.args.cells.now span.address span.count in
    let same : length c.deref.result.now ≡ length (bytes_at c.args.cells.now span.address span.count) =
    ap (λ (x : List ℕ). length x) (c.deref.ensures.value ∙ c.in_ok-take_bytes.ensures) in
    omega (arith, few, same, span.near, c.requires)

pub returns : goal.returns
returns c = no_place c.args.cells.now c.loop-span.out.items c.args.spans.now c.loop-span.span-index (lines_of c.loop-span.rest.now) _
    (omega (arith, c.loop-span-test.false)) c.loop-span.invariant
