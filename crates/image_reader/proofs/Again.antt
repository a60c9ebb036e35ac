-- Cells are put where bytes are put again, one after another.
use Rattle.std.proofs.Common.{◌≡◌, ℕ, ◌+◌, ◌<◌, List, length, drop, Option, sym, ap, ◌∙◌, arith}
use Rattle.std.proofs.lemmas.List.{drop_more}
use Rattle.image_reader.specs.Progress.{with_again, with_again_at}

abbrev Cells : Type 0
Cells = List (Option ℕ)

-- one address more
pub one_again : (cells again new : Cells) (address i k : ℕ) (bytes : List ℕ) → i < length bytes → k ≡ address + i → new ≡ with_again_at cells again k
    → with_again cells new (address + (i + 1)) (drop (i + 1) bytes) ≡ with_again cells again (address + i) (drop i bytes)
one_again cells again new address i k bytes below at is =
    let next : address + (i + 1) ≡ address + i + 1 = omega arith in
    ap (λ (a : Cells). with_again cells a (address + (i + 1)) (drop (i + 1) bytes)) (is ∙ ap (λ (n : ℕ). with_again_at cells again n) at)
    ∙ ap (λ (n : ℕ). with_again cells (with_again_at cells again (address + i)) n (drop (i + 1) bytes)) next
    ∙ sym (ap (λ (bs : List ℕ). with_again cells again (address + i) bs) (drop_more bytes i 0 below))
