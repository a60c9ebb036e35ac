-- End records that have the number of records in place of the sum.
use Rattle.std.proofs.Common.{◌≡◌, ℕ, ◌==◌, ◌&&◌, not, true, false, List, [], ◌∷◌, drop, length, refl, sym, ap, ◌∙◌}
use Rattle.std.specs.List.{list_all}
use Rattle.std.proofs.lemmas.Bool.{and_parts, eqb-true}
use Rattle.model.specs.Digits.{is_hex_byte}
use Rattle.model.specs.Tape.{claim_of}
use Rattle.image_reader.specs.EndRecords.{AreEndDigits, as_read, counts_twice, has_count_twice, is_count_twice, last_record, with_end_sum}

pub corrected : (text : List ℕ) → has_count_twice text ≡ true → with_end_sum text ≡ as_read text
unfolding as_read
corrected text is = rw is refl

pub unchanged : (text : List ℕ) → has_count_twice text ≡ false → text ≡ as_read text
unfolding as_read
unchanged text is = rw is refl

pub end_digits : (bytes : List ℕ) → is_count_twice bytes ≡ true → AreEndDigits (drop 1 bytes)
unfolding counts_twice claim_of
end_digits [] is = absurd cc
end_digits (b ∷ digits) is =
    let says = and_parts ((b == 59) && (length digits == 10) && list_all is_hex_byte digits) (counts_twice (claim_of digits)) is in
    let hex = and_parts ((b == 59) && (length digits == 10)) (list_all is_hex_byte digits) says.0 in
    let sized = and_parts (b == 59) (length digits == 10) hex.0 in
    let twice = and_parts (((claim_of digits).length == 0) && ((claim_of digits).checksum == (claim_of digits).address))
    (not ((claim_of digits).sum == (claim_of digits).checksum)) says.1 in
    let none = and_parts ((claim_of digits).length == 0) ((claim_of digits).checksum == (claim_of digits).address) twice.0 in
    record {
      hex = hex.1;
      size = eqb-true (length digits) 10 sized.1;
      none = eqb-true (claim_of digits).length 0 none.0;
    }

pub in_text : (text : List ℕ) → has_count_twice text ≡ true → is_count_twice (last_record text) ≡ true
unfolding has_count_twice
in_text text is = is
