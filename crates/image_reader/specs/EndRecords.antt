-- Tapes whose end record has the number of data records again where the sum of its bytes belongs.
-- Source: mos65, for what srec_cat writes behind 256 data records and more.
use Rattle.std.specs.Prelude.{◌≡◌, ℕ, ◌-◌, ◌==◌, ◌&&◌, not, Bool, true, false, if◌then◌else◌, List, [], ◌∷◌, ◌++◌, drop, length, slice_index, take}
use Rattle.std.specs.List.{list_all, suffix_len}
use Rattle.model.specs.Digits.{is_hex_byte}
use Rattle.model.specs.Tape.{Claim, bytes_of_digits, claim_of, is_skipped}
use Rattle.model.specs.Text.{hex_address}

-- An end record's claim: the number of records comes twice, and is not the sum.
unfoldable pub counts_twice : Claim → Bool
counts_twice claim = (claim.length == 0) && (claim.checksum == claim.address)
    && not (claim.sum == claim.checksum)

-- An end record that claims this: `;` and ten hex digits.
abbrev pub is_count_twice : List ℕ → Bool
is_count_twice [] = false
is_count_twice (b ∷ digits) = (b == 59) && (length digits == 10) && list_all is_hex_byte digits
    && counts_twice (claim_of digits)

-- Ten hex digits of a record without data.
pub record AreEndDigits (digits : List ℕ) : Type 0 where
  pub hex : list_all is_hex_byte digits ≡ true
  pub size : length digits ≡ 10
  pub none : slice_index (bytes_of_digits digits) 0 ≡ 0

-- How long a text is without what a tape skips at its end.
abbrev pub size_of : List ℕ → ℕ
size_of text = length text - suffix_len is_skipped text

-- The last eleven bytes before that, where the end record stands.
unfoldable pub last_record : List ℕ → List ℕ
last_record text = drop (size_of text - 11) (take (size_of text) text)

-- Whether the end record of a text has the number of records in place of the sum.
unfoldable pub has_count_twice : List ℕ → Bool
has_count_twice text = is_count_twice (last_record text)

-- A text with the sum of its end record's bytes in place of the last four digits.
unfoldable pub with_end_sum : List ℕ → List ℕ
with_end_sum text = take (size_of text - 4) text
    ++ (hex_address (claim_of (drop 1 (last_record text))).sum ++ drop (size_of text) text)

-- The text that is read as a tape: with the sum where the number of records stood.
unfoldable pub as_read : List ℕ → List ℕ
as_read text = if has_count_twice text then with_end_sum text else text
