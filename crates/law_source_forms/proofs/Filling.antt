-- The bytes that a line is made of, and lines that are read.
use Rattle.std.proofs.Common.{◌≡◌, ℕ, zero, suc, ◌+◌, ◌/◌, ◌%◌, ◌<◌, ◌≤◌, List, [], ◌∷◌, length, Bool, true, false, Option, Some, None, Ok, refl, ap, ◌∙◌, arith}
use Rattle.std.specs.Prelude.{if◌then◌else◌}
use Rattle.std.specs.List.{flat_map}
use Rattle.model.specs.declared.instruction.Profile.{Profile}
use Rattle.model.specs.Image.{cell_at, IsImage, IsCell}
use Rattle.model.specs.Token.{Tokens, is_string_byte, tokens_from, token_at, tokens_of}
use Rattle.model.specs.Expression.{literal}
use Rattle.model.specs.Reading.{expression_of}
use Rattle.model.specs.SourceLine.{labelled, origin, read_line, line_of, statement_of, whole_expression}
use Rattle.model.specs.InstructionText.{word_text}
use Rattle.model.specs.Source.{read_lines}
use Rattle.law_texts.proofs.Digits.{four_digits}
use Rattle.law_texts.proofs.Steps.{number, symbol, before, address_first}
use Rattle.law_texts.proofs.Said.{written}
use Rattle.law_texts.proofs.Forms.{of_number}
use Rattle.law_texts.proofs.InstructionIsRead.{high, low, first_half, last_half}
use Rattle.source_forms.specs.declared.mark.Mark.{Mark}
use Rattle.source_forms.specs.declared.mark.Mark.TheVariants.{Code, Data, Text, Address, Return}
use Rattle.source_forms.specs.Rows.{kind_of, is_kind, mark_at, byte_before, stretch, origin_line, ended}
use Rattle.law_source_forms.proofs.Cells.{Shows, is_within}
use Rattle.law_source_forms.proofs.Cut.{ArePlain, GoOn, text_cut, all_read}
use Rattle.law_source_forms.proofs.Data.{AreSmall, AreLetters}

-- ---- `*=`

star_first : (rest : List ℕ) → tokens_from 0 0 (42 ∷ 61 ∷ rest) ≡ before (symbol 0 42)
    (before (symbol 1 61) (tokens_from 2 0 rest))
unfolding tokens_from token_at
star_first rest = refl

no_more : tokens_from 7 0 [] ≡ Some []
unfolding tokens_from
no_more = refl

origin_tokens : (w : ℕ) → w < 65536 → tokens_from 0 0 (origin_line w)
    ≡ Some (symbol 0 42 ∷ symbol 1 61 ∷ number 2 (word_text w) ∷ [])
origin_tokens w below =
    star_first (word_text w) ∙ ap (λ (t : Tokens). before (symbol 0 42) (before (symbol 1 61) t))
    (address_first 2 _ _ _ _ _ _ _ _ [] (high (w / 256) (first_half w below)) (low (w / 256)) (high (w % 256) (last_half w)) (low (w % 256)) refl refl
    ∙ ap (before (number 2 (word_text w))) no_more)

origin_line_of : (profile : Profile) (t : List ℕ)
    → line_of profile (symbol 0 42 ∷ symbol 1 61 ∷ number 2 t ∷ [])
    ≡ Some (labelled None (origin (written t)))
unfolding line_of statement_of whole_expression expression_of
origin_line_of profile t = refl

pub origin_said : (profile : Profile) (w : ℕ) → w < 65536
    → read_line profile (origin_line w) ≡ Ok (labelled None (origin (of_number w)))
unfolding read_line tokens_of
origin_said profile w below =
    let value : written (word_text w) ≡ of_number w = ap literal (four_digits w below) in
    rw (
      (high (w / 256) (first_half w below)).source,
      (low (w / 256)).source,
      (high (w % 256) (last_half w)).source,
      (low (w % 256)).source,
      origin_tokens w below,
      origin_line_of profile (word_text w),
      value,
    ) refl

-- ---- stretches

same_kind : (k : Mark) → is_kind k k ≡ true
same_kind Code = refl
same_kind Data = refl
same_kind Text = refl
same_kind Address = refl
same_kind Return = refl

is_letter_kind : (mark : Mark) (b : ℕ) → is_kind Text (kind_of mark b) ≡ true
    → is_string_byte b ≡ true
is_letter_kind Code b h = absurd cc
is_letter_kind Data b h = absurd cc
is_letter_kind Address b h = absurd cc
is_letter_kind Return b h = absurd cc
is_letter_kind Text b h = by (is_string_byte b) h
  where
    by : (t : Bool) → is_kind Text (if t then Text else Data) ≡ true → t ≡ true
    by true h = refl
    by false h = absurd cc

shown_before : (cells : List (Option ℕ)) (a : ℕ) (passes : ℕ → Bool) (rest : List ℕ)
    → Shows cells (a + 1) rest → (c : Option ℕ) → cell_at cells a ≡ c
    → Shows cells a (byte_before c passes rest)
shown_before cells a passes rest s None e = tt
shown_before cells a passes rest s (Some b) e = pick (passes b)
  where
    pick : (t : Bool) → Shows cells a (if t then b ∷ rest else [])
    pick true = (e, s)
    pick false = tt

letters_before : (mark : Mark) (rest : List ℕ) → AreLetters rest → (c : Option ℕ)
    → AreLetters (byte_before c (λ b. is_kind Text (kind_of mark b)) rest)
letters_before mark rest l None = tt
letters_before mark rest l (Some b) = pick (is_kind Text (kind_of mark b)) refl
  where
    pick : (t : Bool) → is_kind Text (kind_of mark b) ≡ t → AreLetters (if t then b ∷ rest else [])
    pick true e = (is_letter_kind mark b e, l)
    pick false e = tt

few_before : (passes : ℕ → Bool) (rest : List ℕ) (n : ℕ) → length rest ≤ n → (c : Option ℕ)
    → length (byte_before c passes rest) ≤ suc n
few_before passes rest n h None = omega arith
few_before passes rest n h (Some b) = pick (passes b)
  where
    pick : (t : Bool) → length (if t then b ∷ rest else []) ≤ suc n
    pick true = omega (arith, h)
    pick false = omega arith

module _ (cells : List (Option ℕ)) (marks : List Mark) where
  pub shown : (kind : Mark) (n a : ℕ) → Shows cells a (stretch cells marks kind n a)
  unfolding stretch
  shown kind zero a = tt
  shown kind (suc n) a = shown_before cells a (λ b. is_kind kind (kind_of (mark_at marks a) b)) (stretch cells marks kind n (a + 1))
      (shown kind n (a + 1)) (cell_at cells a) refl

  pub letters : (n a : ℕ) → AreLetters (stretch cells marks Text n a)
  unfolding stretch
  letters zero a = tt
  letters (suc n) a = letters_before (mark_at marks a) (stretch cells marks Text n (a + 1)) (letters n (a + 1)) (cell_at cells a)

  pub few : (kind : Mark) (n a : ℕ) → length (stretch cells marks kind n a) ≤ n
  unfolding stretch
  few kind zero a = omega arith
  few kind (suc n) a = few_before (λ b. is_kind kind (kind_of (mark_at marks a) b)) (stretch cells marks kind n (a + 1)) n (few kind n (a + 1))
      (cell_at cells a)

  pub begins : (kind : Mark) (n a b : ℕ) → cell_at cells a ≡ Some b → kind_of (mark_at marks a) b ≡ kind
      → stretch cells marks kind (suc n) a ≡ b ∷ stretch cells marks kind n (a + 1)
  unfolding stretch
  begins kind n a b here is = rw (here, is, same_kind kind) refl

small_here : (cells : List (Option ℕ)) (a b : ℕ) → IsImage cells → cell_at cells a ≡ Some b
    → b < 256
small_here cells a b image here = let cell : IsCell (cell_at cells a) = image.each a None (is_within a b cells here) in rw here at cell

pub small_shown : (cells : List (Option ℕ)) (a : ℕ) (bs : List ℕ) → IsImage cells → Shows cells a bs
    → AreSmall bs
small_shown cells a [] image s = tt
small_shown cells a (b ∷ bs) image s = (small_here cells a b image s.0, small_shown cells (a + 1) bs image s.1)

-- ---- all lines

pub lines_read : (profile : Profile) (lines : List (List ℕ)) → ArePlain lines → GoOn profile lines
    → read_lines profile (flat_map ended lines) ≡ lines
unfolding read_lines
lines_read profile lines plain on = rw (text_cut lines plain) (all_read profile lines on)
