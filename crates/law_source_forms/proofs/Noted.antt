-- Notes behind numbers: they say nothing, and are short.
use Rattle.std.proofs.Common.{◌≡◌, ℕ, zero, suc, ◌+◌, ◌-◌, ◌*◌, ◌/◌, ◌%◌, ◌<◌, ◌≤◌, ◌^◌, List, [], ◌∷◌, ◌++◌, length, map, Bool, true, false, Option, Some, None, refl, sym, ap, ◌∙◌, arith, inl, inr, length-append, get_or}
use Rattle.std.specs.Prelude.{◌&&◌, ◌==◌, not, nat_le, if◌then◌else◌, codes, decimal, slice_index}
use Rattle.std.specs.List.{list_all, range_with_len}
use Rattle.std.proofs.lemmas.Bool.{leb-true}
use Rattle.std.proofs.lemmas.Bool.Decides.{eqb_tells}
use Rattle.std.proofs.lemmas.Fmt.{decimal_by_steps, length-decimal-le}
use Rattle.std.proofs.lemmas.List.FromFn.{get_or-map-range_with_len}
use Rattle.model.specs.declared.instruction.Profile.{Profile}
use Rattle.model.specs.declared.instruction.Profile.TheVariants.{N, C}
use Rattle.model.specs.declared.instruction.Mode.{Mode}
use Rattle.model.specs.declared.instruction.Mode.TheVariants.{Imp, Acc, Imm, Zp, ZpX, ZpY, Abs, AbsX, AbsY, IndX, IndY, Ind, Rel, IndZ}
use Rattle.model.specs.Token.{is_source_byte, tokens_from}
use Rattle.model.specs.InstructionText.{byte_text}
use Rattle.law_texts.proofs.InstructionIsRead.{high, low, first_half, last_half}
use Rattle.source_forms.specs.declared.mark.Mark.{Mark}
use Rattle.source_forms.specs.declared.undocumented.Undocumented.{Undocumented}
use Rattle.source_forms.specs.Undocumented.{undocumented_opcodes, find_undocumented, undocumented_at, bare_operand, mark_of, instruction_note}
use Rattle.source_forms.specs.Runs.{is_number, run_length, goes_on, count_note, run_note}
use Rattle.law_source_forms.proofs.Cut.{IsPlain}
use Rattle.law_source_forms.proofs.Data.{AreSmall, IsNote, no_note}
use Rattle.law_source_forms.proofs.Listed.{and_both, small_at, word_below}

plain_both : (xs ys : List ℕ) → IsPlain xs → IsPlain ys → IsPlain (xs ++ ys)
plain_both [] ys p q = q
plain_both (x ∷ xs) ys p q = let both = and_both (is_source_byte x) (list_all is_source_byte xs) p in rw both.0 (plain_both xs ys both.1 q)

-- ---- comments

comment : (rest : List ℕ) → IsPlain rest → length rest ≤ 31 → IsNote (59 ∷ rest)
unfolding tokens_from
comment rest plain few = record { none = λ p. refl; no_digit = refl; no_word = refl; plain = plain; few = omega (arith, few) }

comment_behind : (rest : List ℕ) → IsPlain rest → length rest ≤ 29 → IsNote (32 ∷ 59 ∷ 32 ∷ rest)
unfolding tokens_from
comment_behind rest plain few = record { none = λ p. refl; no_digit = refl; no_word = refl; plain = plain; few = omega (arith, few) }

-- ---- undocumented instructions

abbrev operand_size : Mode → ℕ
operand_size Imp = 0
operand_size Acc = 0
operand_size Imm = 5
operand_size Zp = 4
operand_size ZpX = 6
operand_size ZpY = 6
operand_size Abs = 6
operand_size AbsX = 8
operand_size AbsY = 8
operand_size IndX = 8
operand_size IndY = 8
operand_size Ind = 0
operand_size Rel = 0
operand_size IndZ = 0

operand_sized : (mode : Mode) (b c : ℕ) → length (bare_operand mode b c) ≡ operand_size mode
operand_sized Imp b c = refl
operand_sized Acc b c = refl
operand_sized Imm b c = refl
operand_sized Zp b c = refl
operand_sized ZpX b c = refl
operand_sized ZpY b c = refl
operand_sized Abs b c = refl
operand_sized AbsX b c = refl
operand_sized AbsY b c = refl
operand_sized IndX b c = refl
operand_sized IndY b c = refl
operand_sized Ind b c = refl
operand_sized Rel b c = refl
operand_sized IndZ b c = refl

operand_plain : (mode : Mode) (b c : ℕ) → b < 256 → c < 256 → IsPlain (bare_operand mode b c)
operand_plain Imp b c l h = refl
operand_plain Acc b c l h = refl
operand_plain Imm b c l h = rw ((high b l).source, (low b).source) refl
operand_plain Zp b c l h = rw ((high b l).source, (low b).source) refl
operand_plain ZpX b c l h = rw ((high b l).source, (low b).source) refl
operand_plain ZpY b c l h = rw ((high b l).source, (low b).source) refl
operand_plain Abs b c l h = let w : ℕ = b + 256 * c in let below : w < 65536 = word_below b c l h in
    rw ((high (w / 256) (first_half w below)).source, (low (w / 256)).source, (high (w % 256) (last_half w)).source, (low (w % 256)).source) refl
operand_plain AbsX b c l h = let w : ℕ = b + 256 * c in let below : w < 65536 = word_below b c l h in
    rw ((high (w / 256) (first_half w below)).source, (low (w / 256)).source, (high (w % 256) (last_half w)).source, (low (w % 256)).source) refl
operand_plain AbsY b c l h = let w : ℕ = b + 256 * c in let below : w < 65536 = word_below b c l h in
    rw ((high (w / 256) (first_half w below)).source, (low (w / 256)).source, (high (w % 256) (last_half w)).source, (low (w % 256)).source) refl
operand_plain IndX b c l h = rw ((high b l).source, (low b).source) refl
operand_plain IndY b c l h = rw ((high b l).source, (low b).source) refl
operand_plain Ind b c l h = refl
operand_plain Rel b c l h = refl
operand_plain IndZ b c l h = refl

-- its line is short enough for its length
abbrev fits : Undocumented → Bool
fits u = (length u.name == 3) && (list_all is_source_byte u.name
    && (nat_le 1 u.len && (nat_le u.len 3 && nat_le (13 + 4 * (u.len - 1) + length (mark_of u.len) + operand_size u.mode) (14 * u.len))))

abbrev fits_if : Option Undocumented → Bool
fits_if None = true
fits_if (Some u) = fits u

all_fit : map (λ k. fits_if (find_undocumented k undocumented_opcodes)) (range_with_len 0 256) ≡ map (λ k. true) (range_with_len 0 256)
unfolding find_undocumented undocumented_opcodes
all_fit = refl

each_fits : (opcode : ℕ) → opcode < 256 → fits_if (find_undocumented opcode undocumented_opcodes) ≡ true
each_fits opcode below =
    sym (get_or-map-range_with_len (λ k. fits_if (find_undocumented k undocumented_opcodes)) 0 256 opcode opcode true below (omega arith))
    ∙ ap (λ rows. get_or rows opcode true) all_fit
    ∙ get_or-map-range_with_len (λ k. true) 0 256 opcode opcode true below (omega arith)

it_fits : (profile : Profile) (opcode : ℕ) (u : Undocumented) → opcode < 256 → undocumented_at profile opcode ≡ Some u → fits u ≡ true
unfolding undocumented_at
it_fits N opcode u below is = rw is at (each_fits opcode below)
it_fits C opcode u below is = absurd cc

-- what is known of one
pub record Fits (u : Undocumented) : Type 0 where
  pub name : length u.name ≡ 3
  pub letters : IsPlain u.name
  pub some : 0 < u.len
  pub small : u.len ≤ 3
  pub short : 13 + 4 * (u.len - 1) + length (mark_of u.len) + operand_size u.mode ≤ 14 * u.len

is_three : (n : ℕ) → (n == 3) ≡ true → n ≡ 3
is_three n h = elim (eqb_tells n 3) [
  | inl same ↦ same.1
  | inr other ↦ let never : true ≡ false = sym h ∙ other.0 in absurd cc
]

pub fits_here : (profile : Profile) (opcode : ℕ) (u : Undocumented) → opcode < 256 → undocumented_at profile opcode ≡ Some u → Fits u
fits_here profile opcode u below is =
    let a = and_both _ _ (it_fits profile opcode u below is) in
    let b = and_both _ _ a.1 in
    let c = and_both _ _ b.1 in
    let d = and_both _ _ c.1 in
    record {
      name = is_three (length u.name) a.0;
      letters = b.0;
      some = omega (arith, leb-true 1 u.len c.0);
      small = leb-true u.len 3 d.0;
      short =
          leb-true _ _ d.1;
    }

mark_small : (len : ℕ) → length (mark_of len) ≤ 3
mark_small len = on (len == 1)
  where
    on : (t : Bool) → length (if t then codes ";" else codes " ; ") ≤ 3
    on true = omega arith
    on false = omega arith

pub note_size : (u : Undocumented) (b c : ℕ) → Fits u → length (instruction_note u b c) ≡ length (mark_of u.len) + 3 + operand_size u.mode
unfolding instruction_note
note_size u b c f = omega (
  arith,
  length-append (mark_of u.len) (u.name ++ bare_operand u.mode b c),
  length-append u.name (bare_operand u.mode b c),
  f.name,
  operand_sized u.mode b c,
)

operand_small : (mode : Mode) → operand_size mode ≤ 8
operand_small Imp = omega arith
operand_small Acc = omega arith
operand_small Imm = omega arith
operand_small Zp = omega arith
operand_small ZpX = omega arith
operand_small ZpY = omega arith
operand_small Abs = omega arith
operand_small AbsX = omega arith
operand_small AbsY = omega arith
operand_small IndX = omega arith
operand_small IndY = omega arith
operand_small Ind = omega arith
operand_small Rel = omega arith
operand_small IndZ = omega arith

pub instruction_is_noted : (u : Undocumented) (b c : ℕ) → Fits u → b < 256 → c < 256 → IsNote (instruction_note u b c)
unfolding instruction_note
instruction_is_noted u b c f l h = on (u.len == 1)
  where
    rest : List ℕ
    rest = u.name ++ bare_operand u.mode b c

    plain : IsPlain (u.name ++ bare_operand u.mode b c)
    plain = plain_both u.name (bare_operand u.mode b c) f.letters (operand_plain u.mode b c l h)

    few : length (u.name ++ bare_operand u.mode b c) ≤ 29
    few = omega (arith, length-append u.name (bare_operand u.mode b c), f.name, operand_sized u.mode b c, operand_small u.mode)

    on : (t : Bool) → IsNote ((if t then codes ";" else codes " ; ") ++ (u.name ++ bare_operand u.mode b c))
    on true = comment (u.name ++ bare_operand u.mode b c) plain (omega (arith, few))
    on false = comment_behind (u.name ++ bare_operand u.mode b c) plain few

-- ---- runs

digit_plain : (d : ℕ) → d < 10 → is_source_byte (48 + d) ≡ true
digit_plain d below =
    sym (get_or-map-range_with_len (λ k. is_source_byte (48 + k)) 0 10 d d true below (omega arith))
    ∙ ap (λ rows. get_or rows d true) same
    ∙ get_or-map-range_with_len (λ k. true) 0 10 d d true below (omega arith)
  where
    same : map (λ k. is_source_byte (48 + k)) (range_with_len 0 10) ≡ map (λ k. true) (range_with_len 0 10)
    same = refl

decimal_plain : (n : ℕ) → n < 2 ^ 64 → IsPlain (decimal n)
decimal_plain = decimal_by_steps (λ n ds. IsPlain ds)
    (λ n below. rw (digit_plain n below) refl)
    (λ n ds large plain. plain_both ds ((48 + n % 10) ∷ []) plain (rw (digit_plain (n % 10) (omega arith)) refl))

pub run_small : (cells : List (Option ℕ)) (marks : List Mark) (b n a : ℕ) → run_length cells marks b n a ≤ n
unfolding run_length
run_small cells marks b zero a = omega arith
run_small cells marks b (suc n) a = on (is_number cells marks b a) (run_small cells marks b n (a + 1))
  where
    on : (t : Bool) → run_length cells marks b n (a + 1) ≤ n → (if t then suc (run_length cells marks b n (a + 1)) else 0) ≤ suc n
    on true h = omega (arith, h)
    on false h = omega arith

-- a note, of at most 18 bytes
pub record IsShort (note : List ℕ) : Type 0 where
  pub note_is : IsNote note
  pub size : length note ≤ 18

nothing : IsShort []
nothing = record { note_is = no_note; size = omega arith }

count_is_noted : (b n : ℕ) → b < 256 → n ≤ 65536 → IsShort (count_note b n)
count_is_noted b n l small = on (nat_le 16 n)
  where
    tail_plain : IsPlain (codes " bytes " ++ byte_text b)
    tail_plain = rw ((high b l).source, (low b).source) refl

    digits : length (decimal n) ≤ 5
    digits = length-decimal-le 5 n (omega arith) (omega (arith, small)) (omega (arith, small))

    size : length (decimal n ++ (codes " bytes " ++ byte_text b)) ≤ 15
    size = omega (arith, digits, length-append (decimal n) (codes " bytes " ++ byte_text b))

    on : (t : Bool) → IsShort (if t then codes " ; " ++ (decimal n ++ (codes " bytes " ++ byte_text b)) else [])
    on true = record {
      note_is = comment_behind (decimal n ++ (codes " bytes " ++ byte_text b))
          (plain_both (decimal n) (codes " bytes " ++ byte_text b) (decimal_plain n (omega (arith, small))) tail_plain) (omega (arith, size));
      size = omega (arith, size);
    }
    on false = nothing

-- a run's note stands only behind eight numbers
pub run_is_noted : (cells : List (Option ℕ)) (marks : List Mark) (a : ℕ) (bytes : List ℕ) → AreSmall bytes
    → IsShort (run_note cells marks a bytes)
unfolding run_note
run_is_noted cells marks a bytes small =
    on ((length bytes == 8) && not (goes_on cells marks (slice_index bytes 0) a))
  where
    b : ℕ
    b = slice_index bytes 0

    on : (t : Bool) → IsShort (if t then count_note (slice_index bytes 0) (run_length cells marks (slice_index bytes 0) 65536 a) else [])
    on true = count_is_noted (slice_index bytes 0) (run_length cells marks (slice_index bytes 0) 65536 a) (small_at bytes small 0)
        (run_small cells marks (slice_index bytes 0) 65536 a)
    on false = nothing

-- elsewhere it is empty
pub run_needs_eight : (cells : List (Option ℕ)) (marks : List Mark) (a : ℕ) (bytes : List ℕ)
    → length (run_note cells marks a bytes) ≤ 18 → length (run_note cells marks a bytes) ≤ 5 * (length bytes - 1)
unfolding run_note
run_needs_eight cells marks a bytes few = on (length bytes == 8) refl few
  where
    on : (t : Bool) → (length bytes == 8) ≡ t
        → length (if t && not (goes_on cells marks (slice_index bytes 0) a) then count_note (slice_index bytes 0)
        (run_length cells marks (slice_index bytes 0) 65536 a) else []) ≤ 18
        → length (if t && not (goes_on cells marks (slice_index bytes 0) a) then count_note (slice_index bytes 0)
        (run_length cells marks (slice_index bytes 0) 65536 a) else []) ≤ 5 * (length bytes - 1)
    on true e h = let eight : length bytes ≡ 8 = is_eight (length bytes) e in omega (arith, h, eight)
      where
        is_eight : (n : ℕ) → (n == 8) ≡ true → n ≡ 8
        is_eight n h = elim (eqb_tells n 8) [
          | inl same ↦ same.1
          | inr other ↦ let never : true ≡ false = sym h ∙ other.0 in absurd cc
        ]
    on false e h = omega arith
