use Rattle.std.proofs.Common.{◌≡◌, ◌+◌, ◌-◌, ◌%◌, ◌<◌, ◌∙◌, ℕ, List, Option, Some, length, ap, arith, subst, sym}
use Rattle.std.specs.List.{sum_by}
use Rattle.word_convert.specs.Sums.{IsSummed, cell_value}
use Rattle.word_convert.proofs.Summed.{summed, within}
use Rattle.word_convert.proofs.sums.put_right_byte.Goals as goal

pub right_byte-right-requires : goal.right_byte-right-requires
right_byte-right-requires c =
    let inside : c.args.address < length c.args.part.now = omega (arith, c.ranges.address.fits, c.cells.ensures.image.size) in
    let total = c.sum_of-sum.ensures ∙ ap (λ (xs : List (Option ℕ)). sum_by cell_value xs) c.cells.ensures.same in
    omega (arith, total, within c.args.part.now c.args.address c.args.byte inside c.requires)

pub returns : goal.returns
returns c =
    let inside : c.args.address < length c.args.part.now = omega (arith, c.ranges.address.fits, c.cells.ensures.image.size) in
    let total = c.sum_of-sum.ensures ∙ ap (λ (xs : List (Option ℕ)). sum_by cell_value xs) c.cells.ensures.same in
    let right = c.right_byte-right.result in
    let none = ap (λ (n : ℕ). (n - c.args.byte + right) % 256) (sym total) ∙ c.right_byte-right.ensures.zero in
    subst (λ (xs : List (Option ℕ)). IsSummed (Some c.args.address) c.args.part.now xs) (sym c.put.ensures)
    (summed c.args.part.now c.args.address c.args.byte inside c.requires right c.right_byte-right.ensures.small none)
