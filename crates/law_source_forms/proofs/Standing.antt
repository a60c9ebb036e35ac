-- What each line of a source with labels stands for.
use Rattle.std.proofs.Common.{◌≡◌, ℕ, zero, suc, ◌+◌, ◌*◌, ◌<◌, ◌≤◌, List, [], ◌∷◌, ◌++◌, length, take, Bool, true, false, Option, Some, None, refl, sym, ap, ◌∙◌, subst, arith, inl, inr, length-take, length-append}
use Rattle.std.specs.Prelude.{◌&&◌, ◌==◌, nat_le, slice_index, if◌then◌else◌, codes}
use Rattle.std.proofs.lemmas.Bool.{leb-true}
use Rattle.std.proofs.lemmas.Bool.Decides.{eqb_tells}
use Rattle.model.specs.declared.instruction.Profile.{Profile}
use Rattle.model.specs.declared.instruction.Row.{Row}
use Rattle.model.specs.OpcodeTable.{opcode_of, row_at, IsRowOf}
use Rattle.model.specs.Image.{cell_at, IsImage}
use Rattle.model.specs.Layout.{length_in}
use Rattle.law_opcodes.proofs.Encoding.{encoded_of_row}
use Rattle.law_sources.proofs.Lengths.{len_is}
use Rattle.source_forms.specs.declared.mark.Mark.{Mark}
use Rattle.source_forms.specs.declared.mark.Mark.TheVariants.{Code, Data, Text, Address, Return}
use Rattle.source_forms.specs.declared.undocumented.Undocumented.{Undocumented}
use Rattle.source_forms.specs.Undocumented.{undocumented_at, instruction_note}
use Rattle.source_forms.specs.Runs.{run_note}
use Rattle.source_forms.specs.Rows.{kind_of, mark_at, stretch, data_text}
use Rattle.law_source_forms.proofs.Cells.{Shows, shows_front}
use Rattle.law_source_forms.proofs.Stands.{Stands}
use Rattle.law_source_forms.proofs.Data.{AreSmall, AreLetters, IsNote, no_note, data_stands, string_stands, length_data, length_string}
use Rattle.law_source_forms.proofs.Noted.{Fits, fits_here, note_size, instruction_is_noted, run_is_noted, run_needs_eight}
use Rattle.law_source_forms.proofs.Listed.{and_both, length_some, small_at, take_front}
use Rattle.law_source_forms.proofs.Filling.{shown, letters, few, begins, small_shown}
use Rattle.source_forms.specs.Pieces.{Piece, instruction, word, return_word, undocumented, odd_piece, numbers, letters as letters_piece, is_vector, begins_line, room, word_of, code_piece, data_piece, address_piece, return_of, return_piece, piece_by, piece_at, len_of, place_text, text_of}
use Rattle.law_source_forms.proofs.Places.{Near}
use Rattle.law_source_forms.proofs.Referring.{Final, labelled_stands, labelled_size, word_stands, return_stands, place_size}

-- a piece with the bytes that an image has there
pub record HasPiece (table : List ℕ) (profile : Profile) (cells : List (Option ℕ)) (a : ℕ) (p : Piece) : Type 0 where
  pub bytes : List ℕ
  pub shows : Shows cells a bytes
  pub stands : Stands Near (Final table) profile (text_of profile table a p) a bytes
  pub size : length bytes ≡ len_of p
  pub some : 0 < len_of p
  pub short : length (text_of profile table a p) + 1 ≤ 14 * len_of p

room_small : (flags : List Bool) (n a : ℕ) → room flags n a ≤ n
unfolding room
room_small flags zero a = omega arith
room_small flags (suc n) a = on (begins_line flags (a + 1)) (room_small flags n (a + 1))
  where
    on : (x : Bool) → room flags n (a + 1) ≤ n → suc (if x then 0 else room flags n (a + 1)) ≤ suc n
    on true small = omega arith
    on false small = omega (arith, small)

small_front : (n : ℕ) (bs : List ℕ) → AreSmall bs → AreSmall (take n bs)
small_front zero bs small = tt
small_front (suc n) [] small = tt
small_front (suc n) (b ∷ bs) small = (small.0, small_front n bs small.1)

length-take-le : (n : ℕ) (bs : List ℕ) → n ≤ length bs → length (take n bs) ≡ n
length-take-le zero bs long = refl
length-take-le (suc n) [] long = absurd (omega (arith, long))
length-take-le (suc n) (b ∷ bs) long = ap suc (length-take-le n bs (omega (arith, long)))

is_two : (n : ℕ) → (n == 2) ≡ true → n ≡ 2
is_two n h = elim (eqb_tells n 2) [
  | inl same ↦ same.1
  | inr other ↦ let never : true ≡ false = sym h ∙ other.0 in absurd cc
]

module _ (table : List ℕ) (profile : Profile) (cells : List (Option ℕ)) (a : ℕ) where
  abbrev Has : Piece → Type 0
  Has p = HasPiece table profile cells a p

  numbers_has : (b : ℕ) (rest note : List ℕ) → Shows cells a (b ∷ rest) → AreSmall (b ∷ rest) → length rest < 8 → IsNote note
      → length (data_text (b ∷ rest) note) + 1 ≤ 14 * suc (length rest) → Has (numbers (b ∷ rest) note)
  unfolding len_of text_of
  numbers_has b rest note s small room_left is short = record {
    bytes = b ∷ rest;
    shows = s;
    stands = data_stands Near (Final table) profile a b rest note small.0 small.1 room_left is;
    size = refl;
    some = omega arith;
    short = short;
  }

  plain_has : (b : ℕ) (rest : List ℕ) → Shows cells a (b ∷ rest) → AreSmall (b ∷ rest) → length rest < 8 → Has (numbers (b ∷ rest) [])
  plain_has b rest s small room_left = numbers_has b rest [] s small room_left no_note (omega (arith, length_data b rest []))

  letters_has : (b : ℕ) (rest : List ℕ) → Shows cells a (b ∷ rest) → AreLetters (b ∷ rest) → length rest < 32 → Has (letters_piece (b ∷ rest))
  unfolding len_of text_of
  letters_has b rest s l room_left = record {
    bytes = b ∷ rest;
    shows = s;
    stands = string_stands Near (Final table) profile a b rest l room_left;
    size = refl;
    some = omega arith;
    short = omega (arith, length_string (b ∷ rest));
  }

  word_has : (b c : ℕ) (rest : List ℕ) → Shows cells a (b ∷ c ∷ rest) → AreSmall (b ∷ c ∷ rest) → Has (word (b + 256 * c))
  unfolding len_of text_of
  word_has b c rest s small = record {
    bytes = b ∷ c ∷ [];
    shows = (s.0, (s.1.0, tt));
    stands = word_stands table profile a b c small.0 small.1.0;
    size = refl;
    some = omega arith;
    short = omega (arith, place_size table (b + 256 * c));
  }

  return_word_has : (b c : ℕ) (rest : List ℕ) → Shows cells a (b ∷ c ∷ rest) → AreSmall (b ∷ c ∷ rest) → b + 256 * c < 65535
      → Has (return_word (b + 256 * c + 1))
  unfolding len_of text_of
  return_word_has b c rest s small below = record {
    bytes = b ∷ c ∷ [];
    shows = (s.0, (s.1.0, tt));
    stands = return_stands table profile a b c small.0 small.1.0 below;
    size = refl;
    some = omega arith;
    short = omega (arith, place_size table (b + 256 * c + 1), length-append (place_text table (b + 256 * c + 1)) (codes "-1"));
  }

  return_has : (b c : ℕ) (rest : List ℕ) → Shows cells a (b ∷ c ∷ rest) → AreSmall (b ∷ c ∷ rest) → Has (return_of (b + 256 * c))
  return_has b c rest s small = elim (eqb_tells (b + 256 * c) 65535) [
    | inl same ↦ rw same.0 (word_has b c rest s small)
    | inr other ↦ rw other.0 (return_word_has b c rest s small (omega (arith, small.0, small.1.0, other.1)))
  ]

  instruction_has : (here : a < 65536) (row : Row) (bs : List ℕ) → row_at profile (slice_index bs 0) ≡ Some row → row.len ≤ length bs
      → Shows cells a bs → AreSmall bs
      → Has (instruction row (slice_index bs 1) (slice_index bs 2))
  unfolding len_of text_of
  instruction_has here row bs e long s small =
      let each : (i : ℕ) → slice_index bs i < 256 = small_at bs small in
      let len : row.len ≡ length_in row.mode = len_is profile (slice_index bs 0) row (each 0) e in
      let is : IsRowOf row.mnemonic row.mode (row_at profile (slice_index bs 0)) = rw e (refl, refl) in
      let found : opcode_of profile row.mnemonic row.mode ≡ Some (slice_index bs 0) =
      encoded_of_row profile row.mnemonic row.mode (slice_index bs 0) (each 0) is in
      let bytes_are = take_front row.mode bs (rw len at long) ∙ ap (λ (n : ℕ). take n bs) (sym len) in
      record {
        bytes = take row.len bs;
        shows = shows_front row.len cells a bs s;
        stands = subst (λ (x : List ℕ). Stands Near (Final table) profile
            (text_of profile table a (instruction row (slice_index bs 1) (slice_index bs 2))) a x) bytes_are
            (labelled_stands table profile row.mnemonic a (slice_index bs 0) here row.mode (slice_index bs 1) (slice_index bs 2) found (each 1) (each 2));
        size = omega (arith, length-take row.len bs, long);
        some = omega (arith, length_some row.mode, len);
        short = omega (arith, labelled_size profile table row.mnemonic a row.mode (slice_index bs 1) (slice_index bs 2), len);
      }

  undocumented_has : (b : ℕ) (rest note : List ℕ) → Shows cells a (b ∷ rest) → AreSmall (b ∷ rest) → length rest < 8 → IsNote note
      → length (data_text (b ∷ rest) note) + 1 ≤ 14 * suc (length rest) → Has (undocumented (b ∷ rest) note)
  unfolding len_of text_of
  undocumented_has b rest note s small room_left is short = record {
    bytes = b ∷ rest;
    shows = s;
    stands = data_stands Near (Final table) profile a b rest note small.0 small.1 room_left is;
    size = refl;
    some = omega arith;
    short = short;
  }

  odd_front : (b : ℕ) (rest : List ℕ) (u : Undocumented) (n : ℕ) → u.len ≡ suc n → Shows cells a (b ∷ rest) → AreSmall (b ∷ rest)
      → undocumented_at profile b ≡ Some u → u.len ≤ suc (length rest)
      → Has (undocumented (b ∷ take n rest) (instruction_note u (slice_index (b ∷ rest) 1) (slice_index (b ∷ rest) 2)))
  odd_front b rest u n len s small e long =
      let each : (i : ℕ) → slice_index (b ∷ rest) i < 256 = small_at (b ∷ rest) small in
      let f : Fits u = fits_here profile b u small.0 e in
      let count : length (take n rest) ≡ n = length-take-le n rest (omega (arith, len, long)) in
      undocumented_has b (take n rest) (instruction_note u (slice_index (b ∷ rest) 1) (slice_index (b ∷ rest) 2))
      (s.0, shows_front n cells (a + 1) rest s.1) (small.0, small_front n rest small.1)
      (omega (arith, count, len, f.small)) (instruction_is_noted u (slice_index (b ∷ rest) 1) (slice_index (b ∷ rest) 2) f (each 1) (each 2))
      (omega (
        arith,
        length_data b (take n rest) (instruction_note u (slice_index (b ∷ rest) 1) (slice_index (b ∷ rest) 2)),
        note_size u
            (slice_index (b ∷ rest) 1) (slice_index (b ∷ rest) 2) f,
        count,
        len,
        f.short,
      ))

  odd_some : (b : ℕ) (rest : List ℕ) (u : Undocumented) (n : ℕ) → u.len ≡ n → Shows cells a (b ∷ rest) → AreSmall (b ∷ rest)
      → undocumented_at profile b ≡ Some u → u.len ≤ suc (length rest)
      → Has (undocumented (take n (b ∷ rest)) (instruction_note u (slice_index (b ∷ rest) 1) (slice_index (b ∷ rest) 2)))
  odd_some b rest u zero len s small e long = absurd (omega (arith, len, (fits_here profile b u small.0 e).some))
  odd_some b rest u (suc n) len s small e long = odd_front b rest u n len s small e long

  odd_has : (b : ℕ) (rest : List ℕ) → Shows cells a (b ∷ rest) → AreSmall (b ∷ rest) → (r : Option Undocumented) → undocumented_at profile b ≡ r
      → Has (odd_piece (b ∷ rest) r)
  odd_has b rest s small None e = plain_has b [] (s.0, tt) (small.0, tt) (omega arith)
  odd_has b rest s small (Some u) e = on (nat_le u.len (length (b ∷ rest))) refl
    where
      on : (x : Bool) → nat_le u.len (length (b ∷ rest)) ≡ x
          → Has (if x then undocumented (take u.len (b ∷ rest)) (instruction_note u (slice_index (b ∷ rest) 1) (slice_index (b ∷ rest) 2)) else
          numbers (b ∷ []) [])
      on true h = odd_some b rest u u.len refl s small e (leb-true _ _ h)
      on false h = plain_has b [] (s.0, tt) (small.0, tt) (omega arith)

  code_has : (here : a < 65536) (b : ℕ) (rest : List ℕ) → Shows cells a (b ∷ rest) → AreSmall (b ∷ rest) → (r : Option Row) → row_at profile b ≡ r
      → Has (code_piece profile a (b ∷ rest) r)
  code_has here b rest s small None e = odd_has b rest s small (undocumented_at profile b) refl
  code_has here b rest s small (Some row) e = on (nat_le row.len (length (b ∷ rest)) && nat_le (a + row.len) 65536) refl
    where
      on : (x : Bool) → (nat_le row.len (length (b ∷ rest)) && nat_le (a + row.len) 65536) ≡ x
          → Has (if x then instruction row (slice_index (b ∷ rest) 1) (slice_index (b ∷ rest) 2) else numbers (b ∷ []) [])
      on true h = instruction_has here row (b ∷ rest) e (leb-true _ _ (and_both _ _ h).0) s small
      on false h = plain_has b [] (s.0, tt) (small.0, tt) (omega arith)

  two_has : (two : List ℕ) → Shows cells a two → AreSmall two → length two ≡ 2 → Has (word (word_of two))
  two_has [] s small size = absurd (omega (arith, size))
  two_has (b ∷ []) s small size = absurd (omega (arith, size))
  two_has (b ∷ c ∷ rest) s small size = word_has b c rest s small

  data_has : (two : List ℕ) (b : ℕ) (rest note : List ℕ) → Shows cells a two → AreSmall two → Shows cells a (b ∷ rest) → AreSmall (b ∷ rest)
      → length rest < 8 → IsNote note → length note ≤ 5 * length rest → Has (data_piece a two (b ∷ rest) note)
  data_has two b rest note s small t few_more room_left is short = on (is_vector a && (length two == 2)) refl
    where
      on : (x : Bool) → (is_vector a && (length two == 2)) ≡ x → Has (if x then word (word_of two) else numbers (b ∷ rest) note)
      on true h = two_has two s small (is_two (length two) (and_both _ _ h).1)
      on false h = numbers_has b rest note t few_more room_left is (omega (arith, length_data b rest note, short))

  address_has : (b : ℕ) (rest : List ℕ) → Shows cells a (b ∷ rest) → AreSmall (b ∷ rest) → length rest ≤ 1 → Has (address_piece (b ∷ rest))
  address_has b [] s small few_more = plain_has b [] s small (omega arith)
  address_has b (c ∷ []) s small few_more = word_has b c [] s small
  address_has b (c ∷ d ∷ rest) s small few_more = absurd (omega (arith, few_more))

  return_piece_has : (b : ℕ) (rest : List ℕ) → Shows cells a (b ∷ rest) → AreSmall (b ∷ rest) → length rest ≤ 1 → Has (return_piece (b ∷ rest))
  return_piece_has b [] s small few_more = plain_has b [] s small (omega arith)
  return_piece_has b (c ∷ []) s small few_more = return_has b c [] s small
  return_piece_has b (c ∷ d ∷ rest) s small few_more = absurd (omega (arith, few_more))

module _ (table : List ℕ) (profile : Profile) (cells : List (Option ℕ)) (marks : List Mark) (flags : List Bool) (image : IsImage cells) where
  by_code : (a b : ℕ) → cell_at cells a ≡ Some b → a < 65536 → kind_of (mark_at marks a) b ≡ Code
      → HasPiece table profile cells a (piece_by Code profile cells marks flags a)
  by_code a b here below kind =
      let first : stretch cells marks Code 3 a ≡ b ∷ stretch cells marks Code 2 (a + 1) = begins cells marks Code 2 a b here kind in
      let rest : List ℕ = stretch cells marks Code 2 (a + 1) in
      let s : Shows cells a (b ∷ rest) = rw first at (shown cells marks Code 3 a) in
      rw first (code_has table profile cells a below b rest s (small_shown cells a (b ∷ rest) image s) (row_at profile b) refl)

  by_data : (a b : ℕ) → cell_at cells a ≡ Some b → kind_of (mark_at marks a) b ≡ Data
      → HasPiece table profile cells a (piece_by Data profile cells marks flags a)
  unfolding room
  by_data a b here kind =
      let n : ℕ = if begins_line flags (a + 1) then 0 else room flags 7 (a + 1) in
      let first : stretch cells marks Data (room flags 8 a) a ≡ b ∷ stretch cells marks Data n (a + 1) = begins cells marks Data n a b here kind in
      let rest : List ℕ = stretch cells marks Data n (a + 1) in
      let s : Shows cells a (b ∷ rest) = rw first at (shown cells marks Data (room flags 8 a) a) in
      let w : Shows cells a (stretch cells marks Data 2 a) = shown cells marks Data 2 a in
      let small : AreSmall (b ∷ rest) = small_shown cells a (b ∷ rest) image s in
      let r = run_is_noted cells marks a (b ∷ rest) small in
      rw first (data_has table profile cells a (stretch cells marks Data 2 a) b rest (run_note cells marks a (b ∷ rest)) w
      (small_shown cells a (stretch cells marks Data 2 a) image w) s small
      (omega (arith, few cells marks Data n (a + 1), room_small flags 8 a)) r.note_is (omega (arith, run_needs_eight cells marks a (b ∷ rest) r.size)))

  by_text : (a b : ℕ) → cell_at cells a ≡ Some b → kind_of (mark_at marks a) b ≡ Text
      → HasPiece table profile cells a (piece_by Text profile cells marks flags a)
  unfolding room
  by_text a b here kind =
      let n : ℕ = if begins_line flags (a + 1) then 0 else room flags 31 (a + 1) in
      let first : stretch cells marks Text (room flags 32 a) a ≡ b ∷ stretch cells marks Text n (a + 1) = begins cells marks Text n a b here kind in
      let rest : List ℕ = stretch cells marks Text n (a + 1) in
      let s : Shows cells a (b ∷ rest) = rw first at (shown cells marks Text (room flags 32 a) a) in
      let l : AreLetters (b ∷ rest) = rw first at (letters cells marks (room flags 32 a) a) in
      rw first (letters_has table profile cells a b rest s l (omega (arith, few cells marks Text n (a + 1), room_small flags 32 a)))

  by_address : (a b : ℕ) → cell_at cells a ≡ Some b → kind_of (mark_at marks a) b ≡ Address
      → HasPiece table profile cells a (piece_by Address profile cells marks flags a)
  by_address a b here kind =
      let first : stretch cells marks Address 2 a ≡ b ∷ stretch cells marks Address 1 (a + 1) = begins cells marks Address 1 a b here kind in
      let rest : List ℕ = stretch cells marks Address 1 (a + 1) in
      let s : Shows cells a (b ∷ rest) = rw first at (shown cells marks Address 2 a) in
      rw first (address_has table profile cells a b rest s (small_shown cells a (b ∷ rest) image s) (few cells marks Address 1 (a + 1)))

  by_return : (a b : ℕ) → cell_at cells a ≡ Some b → kind_of (mark_at marks a) b ≡ Return
      → HasPiece table profile cells a (piece_by Return profile cells marks flags a)
  by_return a b here kind =
      let first : stretch cells marks Return 2 a ≡ b ∷ stretch cells marks Return 1 (a + 1) = begins cells marks Return 1 a b here kind in
      let rest : List ℕ = stretch cells marks Return 1 (a + 1) in
      let s : Shows cells a (b ∷ rest) = rw first at (shown cells marks Return 2 a) in
      rw first (return_piece_has table profile cells a b rest s (small_shown cells a (b ∷ rest) image s) (few cells marks Return 1 (a + 1)))

  pub piece_here : (a b : ℕ) → cell_at cells a ≡ Some b → a < 65536 → HasPiece table profile cells a (piece_at profile cells marks flags a b)
  unfolding piece_at
  piece_here a b here below = by (kind_of (mark_at marks a) b) refl
    where
      by : (k : Mark) → kind_of (mark_at marks a) b ≡ k → HasPiece table profile cells a (piece_by k profile cells marks flags a)
      by Code e = by_code a b here below e
      by Data e = by_data a b here e
      by Text e = by_text a b here e
      by Address e = by_address a b here e
      by Return e = by_return a b here e
