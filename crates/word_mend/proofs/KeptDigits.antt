-- What a line keeps when its checksum is put right.
use Rattle.std.proofs.Common.{◌≡◌, ◌≤◌, ℕ, ◌-◌, ◌++◌, true, false, List, [], ◌∷◌, length, take, Option, None, Some, is_some, refl, sym, ap, ◌∙◌, arith, length-append}
use Rattle.std.proofs.lemmas.List.{length-take-le, take_at}
use Rattle.hex.specs.Hex.{encode_upper, upper_digits}
use Rattle.hex.proofs.HexLemmas.{length-encode_with}
use Rattle.image_reader.specs.declared.form.TextForm.{TextForm}
use Rattle.image_reader.specs.declared.form.TextForm.TheVariants.{Hex, SRecord}
use Rattle.word_mend.specs.RecordMending.{KeepsDigits, with_checksum, wrong_sum}
use Rattle.word_mend.specs.declared.checksums.Checksums.{Checksums}
use Rattle.word_mend.proofs.RecordSums.{hex_empty, hex_short, s_empty, s_short}

no_sums : (found : Option Checksums) → None ≡ found → is_some found ≡ true → ⊥
no_sums None none is = absurd cc
no_sums (Some sums) none is = absurd cc

-- a line with a wrong checksum has two digits
long_line : (form : TextForm) (line : List ℕ) → is_some (wrong_sum form line) ≡ true → 2 ≤ length line
long_line Hex [] is = absurd (no_sums (wrong_sum Hex []) hex_empty is)
long_line Hex (b ∷ []) is = absurd (no_sums (wrong_sum Hex (b ∷ [])) (hex_short b) is)
long_line Hex (b ∷ c ∷ line) is = omega arith
long_line SRecord [] is = absurd (no_sums (wrong_sum SRecord []) s_empty is)
long_line SRecord (b ∷ []) is = absurd (no_sums (wrong_sum SRecord (b ∷ [])) (s_short b) is)
long_line SRecord (b ∷ c ∷ line) is = omega arith

with_sums : (line : List ℕ) (found : Option Checksums) → (is_some found ≡ true → 2 ≤ length line) → KeepsDigits line (with_checksum line found)
with_sums line None long = record { sizes = refl; digits = refl }
with_sums line (Some sums) long =
    let n : ℕ = length line - 2 in
    let digits : List ℕ = encode_upper (sums.right ∷ []) in
    let two : length digits ≡ 2 = length-encode_with upper_digits (sums.right ∷ []) in
    let front : length (take n line) ≡ n = length-take-le n line (omega arith) in
    record {
      sizes = omega (arith, length-append (take n line) digits, front, two, long refl);
      digits = take_at (take n line) digits n front;
    }

pub kept_digits : (form : TextForm) (line : List ℕ) → KeepsDigits line (with_checksum line (wrong_sum form line))
kept_digits form line = with_sums line (wrong_sum form line) (long_line form line)
