use Rattle.std.proofs.Common.{◌≡◌, ◌∙◌, ◌++◌, ◌-◌, List, ℕ, length, take, ap, arith, length-append}
use Rattle.std.proofs.Math.Seq.{take-append_seam}
use Rattle.page_writer.proofs.turn.read_of.Goals as goal

cut_is : (told left : List ℕ) (n : ℕ) → n ≡ length (told ++ left) - length left → take n (told ++ left) ≡ told
cut_is told left n is =
    let size : n ≡ length told = omega (arith, is, length-append told left) in
    ap (λ (k : ℕ). take k (told ++ left)) size ∙ take-append_seam told left

pub returns-clause-read : goal.returns-clause-read
returns-clause-read c = λ told e.
    let left = c.args.left.now in
    ap (take c.saturating_sub-count.result) e
    ∙ cut_is told left c.saturating_sub-count.result (c.saturating_sub-count.ensures ∙ ap (λ (l : List ℕ). length l - length left) e)
