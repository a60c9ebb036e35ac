-- The way over the fields of a line, over numbers with `+` between them, and over the lines of a file.
use Rattle.std.proofs.Common.{◌≡◌, ◌∙◌, ℕ, zero, suc, ◌+◌, ◌-◌, Bool, true, false, cond, List, [], ◌∷◌, length, drop, refl, ap, arith, Result, Ok, Err}
use Rattle.std.specs.Prelude.{◌==◌}
use Rattle.model.specs.TextLines.{lines_from, lines_of}
use Rattle.debug_records.specs.Faults.{◌>>=◌, fault_at, fault_before}
use Rattle.debug_records.specs.Fields.{Field, Step, fields_within, next_field}
use Rattle.debug_records.specs.Numbers.{next_number, numbers_within, plus_in}
use Rattle.debug_records.specs.Reading.{Reading, in_line, lines_read, place_of, with_text}
use Rattle.debug_records.specs.declared.fault.DebugFault.{DebugFault}
use Rattle.debug_records.specs.declared.fault.DebugFaultKind.TheVariants.{NoField, NoNumber}
use Rattle.debug_records.specs.declared.fault.LineFault.{LineFault}
use Rattle.debug_records.specs.declared.numbers.Placed.{Placed}

-- ---- fields

-- what is done behind a field
abbrev behind_field : ℕ → List Field → List ℕ → Bool → Result (List Field) LineFault
behind_field n more rest true = Ok more
behind_field n more rest false = fields_within n more (drop 1 rest)

field_suc : (n m : ℕ) (fields more : List Field) (text rest : List ℕ) → n ≡ m + 1 → next_field fields text ≡ Ok (more, rest)
    → fields_within n fields text ≡ behind_field m more rest (length rest == 0)
unfolding fields_within
field_suc zero m fields more text rest e k = absurd (omega (arith, e))
field_suc (suc n) m fields more text rest e k =
    let same : n ≡ m = omega (arith, e) in
    rw (← same) (rw k (elim (length rest == 0) as (λ (b : Bool). cond b (Ok more) (fields_within n more (drop 1 rest)) ≡ behind_field n more rest b)
    [ true ↦ refl | false ↦ refl ]))

pub field_last : (n m : ℕ) (fields more : List Field) (text rest : List ℕ) → n ≡ m + 1 → next_field fields text ≡ Ok (more, rest) → (length rest == 0) ≡ true
    → fields_within n fields text ≡ Ok more
field_last n m fields more text rest e k h = field_suc n m fields more text rest e k ∙ ap (behind_field m more rest) h

pub field_more : (n m : ℕ) (fields more : List Field) (text rest : List ℕ) → n ≡ m + 1 → next_field fields text ≡ Ok (more, rest) → (length rest == 0) ≡ false
    → fields_within n fields text ≡ fields_within m more (drop 1 rest)
field_more n m fields more text rest e k h = field_suc n m fields more text rest e k ∙ ap (behind_field m more rest) h

pub field_refused : (n m : ℕ) (fields : List Field) (text : List ℕ) (fault : LineFault) → n ≡ m + 1 → next_field fields text ≡ Err fault
    → fields_within n fields text ≡ Err fault
unfolding fields_within
field_refused zero m fields text fault e k = absurd (omega (arith, e))
field_refused (suc n) m fields text fault e k = rw k refl

pub no_field_left : (n : ℕ) (fields : List Field) (text : List ℕ) → n ≡ 0 → fields_within n fields text ≡ Err (fault_at NoField text)
unfolding fields_within
no_field_left zero fields text h = refl
no_field_left (suc n) fields text h = absurd (omega (arith, h))

-- ---- numbers

-- what is done behind a number
abbrev behind_number : ℕ → List Placed → ℕ → List ℕ → Bool → Result (List Placed) LineFault
behind_number n more left text true = Ok more
behind_number n more left text false = numbers_within n more (left - (plus_in text + 1)) (drop (plus_in text + 1) text)

number_suc : (n m left : ℕ) (found more : List Placed) (text : List ℕ) → n ≡ m + 1 → next_number found left text ≡ Ok more
    → numbers_within n found left text ≡ behind_number m more left text (plus_in text == length text)
unfolding numbers_within
number_suc zero m left found more text e k = absurd (omega (arith, e))
number_suc (suc n) m left found more text e k =
    let same : n ≡ m = omega (arith, e) in
    rw (← same) (rw k (elim (plus_in text == length text) as
    (λ (b : Bool). cond b (Ok more) (numbers_within n more (left - (plus_in text + 1)) (drop (plus_in text + 1) text))
    ≡ behind_number n more left text b) [ true ↦ refl | false ↦ refl ]))

pub number_last : (n m left : ℕ) (found more : List Placed) (text : List ℕ) → n ≡ m + 1 → next_number found left text ≡ Ok more
    → (plus_in text == length text) ≡ true
    → numbers_within n found left text ≡ Ok more
number_last n m left found more text e k h = number_suc n m left found more text e k ∙ ap (behind_number m more left text) h

pub number_more : (n m left : ℕ) (found more : List Placed) (text : List ℕ) → n ≡ m + 1 → next_number found left text ≡ Ok more
    → (plus_in text == length text) ≡ false
    → numbers_within n found left text ≡ numbers_within m more (left - (plus_in text + 1)) (drop (plus_in text + 1) text)
number_more n m left found more text e k h = number_suc n m left found more text e k ∙ ap (behind_number m more left text) h

pub number_refused : (n m left : ℕ) (found : List Placed) (text : List ℕ) (fault : LineFault) → n ≡ m + 1 → next_number found left text ≡ Err fault
    → numbers_within n found left text ≡ Err fault
unfolding numbers_within
number_refused zero m left found text fault e k = absurd (omega (arith, e))
number_refused (suc n) m left found text fault e k = rw k refl

pub no_number_left : (n left : ℕ) (found : List Placed) (text : List ℕ) → n ≡ 0 → numbers_within n found left text ≡ Err (fault_before NoNumber left)
unfolding numbers_within
no_number_left zero left found text h = refl
no_number_left (suc n) left found text h = absurd (omega (arith, h))

-- ---- lines

pub line_more : (number : ℕ) (line : List ℕ) (lines : List (List ℕ)) (r more : Reading) → in_line (place_of number line) (with_text number line r) ≡ Ok more
    → lines_read number (line ∷ lines) r ≡ lines_read (number + 1) lines more
unfolding lines_read
line_more number line lines r more k = ap (λ (read : Result Reading DebugFault). read >>= lines_read (number + 1) lines) k

pub line_refused : (number : ℕ) (line : List ℕ) (lines : List (List ℕ)) (r : Reading) (fault : DebugFault)
    → in_line (place_of number line) (with_text number line r) ≡ Err fault
    → lines_read number (line ∷ lines) r ≡ Err fault
unfolding lines_read
line_refused number line lines r fault k = ap (λ (read : Result Reading DebugFault). read >>= lines_read (number + 1) lines) k

pub no_line_left : (number : ℕ) (text : List ℕ) (r : Reading) → length text ≡ 0 → lines_read number (lines_of text) r ≡ Ok r
unfolding lines_read lines_from
no_line_left number [] r h = refl
no_line_left number (b ∷ text) r h = absurd (omega arith)
