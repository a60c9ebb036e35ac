-- How many bytes the digits of a record write.
use Rattle.std.proofs.Common.{◌≡◌, ℕ, ◌+◌, ◌*◌, ◌≤◌, Bool, true, List, [], ◌∷◌, length, slice_index, refl, arith, inl, inr}
use Rattle.std.specs.List.{list_all, prefix_len}
use Rattle.std.proofs.lemmas.Bool.{and_from, cases_Bool}
use Rattle.model.specs.Digits.{digit_value}
use Rattle.model.specs.Tape.{bytes_of_digits}
use Rattle.papertape.proofs.Digits.{length-bytes_of}
use Rattle.image_reader.specs.Records.{wanted}

pub all_pass : (p : ℕ → Bool) (xs : List ℕ) → length xs ≤ prefix_len p xs → list_all p xs ≡ true
all_pass p [] h = refl
all_pass p (x ∷ xs) h = elim (cases_Bool (p x)) [
  | inl t ↦ and_from (p x) (list_all p xs) t (all_pass p xs (let k = rw t at h in omega (arith, k)))
  | inr f ↦ absurd (let k = rw f at h in omega (arith, k))
]

pub bytes_size : (extra : ℕ) (digits : List ℕ) → length digits ≡ wanted extra digits
    → length (bytes_of_digits digits) ≡ extra + slice_index (bytes_of_digits digits) 0
bytes_size extra [] e = absurd (omega (arith, e))
bytes_size extra (d ∷ []) e = absurd (omega (arith, e))
bytes_size extra (high ∷ low ∷ digits) e = length-bytes_of (high ∷ low ∷ digits) (extra + (digit_value high * 16 + digit_value low)) e
