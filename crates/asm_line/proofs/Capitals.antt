-- A text compared with capitals, a byte at a time.
use Rattle.std.proofs.Common.{◌≡◌, ◌≢◌, ℕ, suc, ◌+◌, ◌<◌, Bool, true, false, List, [], ◌∷◌, refl, ap, sym, ◌∙◌, drop, length, get_or, drop-cons, add-one, arith, eqb}
use Rattle.std.specs.Prelude.{◌&&◌}
use Rattle.std.proofs.lemmas.Grind.{common_steps}
use Rattle.std.specs.Str.{bytes_eq, str_to_ascii_uppercase}
use Rattle.std.specs.Char.{to_ascii_uppercase}
use Rattle.std.proofs.lemmas.List.{drop_all}

-- what is left of both, from an index on
abbrev pub same_from : ℕ → List ℕ → List ℕ → Bool
same_from i text capitals = bytes_eq (str_to_ascii_uppercase (drop i text)) (drop i capitals)

-- both lists from an index on
left : (i : ℕ) (text capitals : List ℕ) → i < length text → i < length capitals
    → same_from i text capitals ≡ (eqb (to_ascii_uppercase (get_or text i 0)) (get_or capitals i 0) && same_from (i + 1) text capitals)
left i text capitals in_text in_capitals = rw (drop-cons text i 0, drop-cons capitals i 0, add-one) refl

pub same_byte : (i : ℕ) (text capitals : List ℕ) → i < length text → i < length capitals → to_ascii_uppercase (get_or text i 0) ≡ get_or capitals i 0
    → same_from (i + 1) text capitals ≡ same_from i text capitals
same_byte i text capitals in_text in_capitals same =
    let tells : eqb (to_ascii_uppercase (get_or text i 0)) (get_or capitals i 0) ≡ true = grind (arith, common_steps) in
    sym (left i text capitals in_text in_capitals ∙ ap (λ b. b && same_from (i + 1) text capitals) tells)

pub other_byte : (i : ℕ) (text capitals : List ℕ) → i < length text → i < length capitals → to_ascii_uppercase (get_or text i 0) ≢ get_or capitals i 0
    → same_from i text capitals ≡ false
other_byte i text capitals in_text in_capitals other =
    let tells : eqb (to_ascii_uppercase (get_or text i 0)) (get_or capitals i 0) ≡ false = grind (arith, common_steps) in
    left i text capitals in_text in_capitals ∙ ap (λ b. b && same_from (i + 1) text capitals) tells

pub all_bytes : (i : ℕ) (text capitals : List ℕ) → length text ≡ length capitals → i ≡ length text → same_from i text capitals ≡ true
all_bytes i text capitals same whole = rw (drop_all i text (omega arith), drop_all i capitals (omega arith)) refl

and-false : (b : Bool) → (b && false) ≡ false
and-false true = refl
and-false false = refl

-- texts of other lengths differ
pub other_length : (text capitals : List ℕ) → length text ≢ length capitals → bytes_eq (str_to_ascii_uppercase text) capitals ≡ false
other_length [] [] other = absurd (other refl)
other_length [] (c ∷ cs) other = refl
other_length (b ∷ bs) [] other = refl
other_length (b ∷ bs) (c ∷ cs) other =
    let behind : bytes_eq (str_to_ascii_uppercase bs) cs ≡ false = other_length bs cs (λ same. other (ap suc same)) in
    ap (λ t. eqb (to_ascii_uppercase b) c && t) behind ∙ and-false _
