-- The bytes that an instruction at an address can have.
use Rattle.std.proofs.Common.{◌≡◌, ℕ, ◌-◌, List, length, take, drop, ap, ◌∙◌, sym}
use Rattle.std.specs.Prelude.{min}
use Rattle.std.proofs.lemmas.List.{length-drop, take_min}

pub shown_all : (memory : List ℕ) (address count : ℕ) → length memory ≡ 65536 → count ≡ min 3 (65536 - address)
    → take count (drop address memory) ≡ take 3 (drop address memory)
shown_all memory address count size is =
    let left : 65536 - address ≡ length (drop address memory) = sym (length-drop address memory ∙ ap (λ n. n - address) size) in
    ap (λ k. take k (drop address memory)) (is ∙ ap (λ n. min 3 n) left) ∙ take_min 3 (drop address memory)
