-- Rows of memory and of output, one after another, and the bytes of a row.
use Rattle.std.proofs.Common.{◌≡◌, ℕ, ◌+◌, ◌-◌, ◌*◌, ◌/◌, ◌%◌, codes, inl, inr, ◌<◌, ◌≤◌, List, [], ◌∷◌, ◌++◌, refl, sym, ap, ◌∙◌, zero, suc, min, take, drop, length, get_or, arith, length-drop, append_assoc, append-nil}
use Rattle.std.proofs.lemmas.List.{take_more, get_or-drop}
use Rattle.std.proofs.lemmas.Grind.{flat_map-append}
use Rattle.std.proofs.lemmas.List.{take_all}
use Rattle.std.proofs.lemmas.Bool.{cases_lt}
use Rattle.std.proofs.Math.Nat.{min-eq_left, min-eq_right}
use Rattle.std.specs.Prelude.{decimal}
use Rattle.std.specs.List.{flat_map, range_with_len}
use Rattle.model.specs.Text.{hex_byte, hex_address, spaced_bytes, memory_row, memory_rows, output_row, output_text}
use Rattle.replies.specs.Output.{output_rows}

-- ---- the bytes of a row

-- The first n bytes from an address on.
pub spaced_from : List ℕ → ℕ → ℕ → List ℕ
spaced_from memory first n = spaced_bytes (take n (drop first memory))

pub spaced_none : (memory : List ℕ) (first : ℕ) → spaced_from memory first 0 ≡ []
unfolding spaced_from spaced_bytes
spaced_none memory first = refl

pub spaced_more : (memory : List ℕ) (first n : ℕ) → first + n < length memory
    → spaced_from memory first (n + 1) ≡ spaced_from memory first n ++ 32 ∷ hex_byte (get_or memory (first + n) 0)
unfolding spaced_from spaced_bytes
spaced_more memory first n within =
    let inside : n < length (drop first memory) = omega (arith, length-drop first memory) in
    ap (flat_map (λ b. 32 ∷ hex_byte b)) (take_more (drop first memory) n 0 inside
    ∙ ap (λ b. take n (drop first memory) ++ b ∷ []) (get_or-drop first memory n 0))
    ∙ flat_map-append (λ b. 32 ∷ hex_byte b) (take n (drop first memory)) (get_or memory (first + n) 0 ∷ [])

pub row_is : (memory : List ℕ) (first last n : ℕ) → n ≡ last + 1 - first
    → memory_row memory first last ≡ hex_address first ++ 32 ∷ spaced_from memory first n ++ 10 ∷ []
unfolding spaced_from memory_row
row_is memory first last n e = ap (λ k. hex_address first ++ 32 ∷ spaced_bytes (take k (drop first memory)) ++ 10 ∷ []) (sym e)

-- ---- parts, one after another

pub range_more : (a n m : ℕ) → range_with_len a (n + m) ≡ range_with_len a n ++ range_with_len (a + n) m
range_more a zero m = ap (λ k. range_with_len a k) (omega arith) ∙ ap (λ k. range_with_len k m) (omega arith)
range_more a (suc n) m =
    let sum : suc n + m ≡ suc (n + m) = omega arith in
    let next : a + 1 + n ≡ a + suc n = omega arith in
    ap (λ k. range_with_len a k) sum ∙ ap (λ xs. a ∷ xs) (range_more (a + 1) n m ∙ ap (λ k. range_with_len (a + 1) n ++ range_with_len k m) next)

-- The first n parts of a text.
pub parts_to : (ℕ → List ℕ) → ℕ → List ℕ
parts_to part n = flat_map part (range_with_len 0 n)

pub parts_none : (part : ℕ → List ℕ) → parts_to part 0 ≡ []
unfolding parts_to
parts_none part = refl

parts_append : (part : ℕ → List ℕ) (n m : ℕ) → parts_to part (n + m) ≡ parts_to part n ++ flat_map part (range_with_len n m)
unfolding parts_to
parts_append part n m =
    let zero_n : 0 + n ≡ n = omega arith in
    ap (flat_map part) (range_more 0 n m ∙ ap (λ k. range_with_len 0 n ++ range_with_len k m) zero_n)
    ∙ flat_map-append part (range_with_len 0 n) (range_with_len n m)

-- One more part.
pub parts_more : (part : ℕ → List ℕ) (n : ℕ) → parts_to part (n + 1) ≡ parts_to part n ++ part n
parts_more part n = parts_append part n 1 ∙ ap (λ t. parts_to part n ++ t) (append-nil (part n))

-- The parts up to one of them are a beginning of all.
pub parts_front : (part : ℕ → List ℕ) (n total : ℕ) → n ≤ total → (more : List ℕ) × (parts_to part total ≡ parts_to part n ++ more)
parts_front part n total le =
    let sum : total ≡ n + (total - n) = omega arith in
    (flat_map part (range_with_len n (total - n)), ap (parts_to part) sum ∙ parts_append part n (total - n))

-- ---- rows of memory

-- The row of a number.
pub row_of : List ℕ → ℕ → ℕ → ℕ → List ℕ
row_of memory first last k = memory_row memory (first + 16 * k) (min last (first + 16 * k + 15))

pub rows_all : (memory : List ℕ) (first last n : ℕ) → n ≡ (last - first) / 16 + 1 → memory_rows memory first last ≡ parts_to (row_of memory first last) n
unfolding parts_to row_of memory_rows
rows_all memory first last n e = ap (λ k. flat_map (row_of memory first last) (range_with_len 0 k)) (sym e)

-- The row of a number, as the code finds it.
pub row_at : (memory : List ℕ) (first last k start end : ℕ) → start ≡ first + 16 * k → end ≡ min last (start + 15)
    → memory_row memory start end ≡ row_of memory first last k
unfolding row_of
row_at memory first last k start end e f = ap (memory_row memory start) f ∙ ap (λ s. memory_row memory s (min last (s + 15))) e

-- One more byte of a row.
pub row_step : (memory : List ℕ) (first address byte : ℕ) (items spaced new : List ℕ) → first ≤ address → address < length memory
    → byte ≡ get_or memory address 0
    → items ≡ hex_address first ++ 32 ∷ spaced_from memory first (address - first) → spaced ≡ items ++ 32 ∷ [] → new ≡ spaced ++ hex_byte byte
    → new ≡ hex_address first ++ 32 ∷ spaced_from memory first (address + 1 - first)
row_step memory first address byte items spaced new le within value before e f =
    let n = address - first in
    let at : first + (address - first) ≡ address = omega arith in
    let next : address - first + 1 ≡ address + 1 - first = omega arith in
    let inside : first + n < length memory = omega arith in
    let more : spaced_from memory first n ++ 32 ∷ hex_byte byte ≡ spaced_from memory first (address + 1 - first) =
    ap (λ v. spaced_from memory first n ++ 32 ∷ hex_byte v) (value ∙ ap (λ a. get_or memory a 0) (sym at)) ∙ sym (spaced_more memory first n inside)
    ∙ ap (spaced_from memory first) next in
    f ∙ ap (λ l. l ++ hex_byte byte) (e ∙ ap (λ l. l ++ 32 ∷ []) before)
    ∙ ap (λ l. hex_address first ++ 32 ∷ l) (append_assoc (spaced_from memory first n) (32 ∷ []) (hex_byte byte) ∙ more)

-- ---- the bytes of a row of output

-- The digits of n bytes from an index on.
pub digits_from : List ℕ → ℕ → ℕ → List ℕ
digits_from out from n = flat_map hex_byte (take n (drop from out))

pub digits_none : (out : List ℕ) (from : ℕ) → digits_from out from 0 ≡ []
unfolding digits_from
digits_none out from = refl

digits_more : (out : List ℕ) (from n : ℕ) → from + n < length out → digits_from out from (n + 1) ≡ digits_from out from n ++ hex_byte (get_or out (from + n) 0)
unfolding digits_from
digits_more out from n within =
    let inside : n < length (drop from out) = omega (arith, length-drop from out) in
    ap (flat_map hex_byte) (take_more (drop from out) n 0 inside ∙ ap (λ b. take n (drop from out) ++ b ∷ []) (get_or-drop from out n 0))
    ∙ flat_map-append hex_byte (take n (drop from out)) (get_or out (from + n) 0 ∷ [])

-- One more byte of a row.
pub digits_step : (out : List ℕ) (from index byte : ℕ) (items new : List ℕ) → from ≤ index → index < length out → byte ≡ get_or out index 0
    → items ≡ digits_from out from (index - from) → new ≡ items ++ hex_byte byte → new ≡ digits_from out from (index + 1 - from)
digits_step out from index byte items new le within value before e =
    let n = index - from in
    let at : from + (index - from) ≡ index = omega arith in
    let next : index - from + 1 ≡ index + 1 - from = omega arith in
    let inside : from + n < length out = omega arith in
    e ∙ ap (λ l. l ++ hex_byte byte) before ∙ ap (λ v. digits_from out from n ++ hex_byte v) (value ∙ ap (λ a. get_or out a 0) (sym at))
    ∙ sym (digits_more out from n inside) ∙ ap (digits_from out from) next

-- A whole row.
pub digits_row : (out : List ℕ) (from n : ℕ) → n ≡ min (length out - from) 32 → output_row out from ≡ digits_from out from n ++ 10 ∷ []
unfolding digits_from output_row
digits_row out from n e = ap (λ bytes. flat_map hex_byte bytes ++ 10 ∷ []) (elim (cases_lt (length out - from) 32) [
  | inl few ↦
      let all : n ≡ length out - from = e ∙ min-eq_left (omega arith) in
      take_all 32 (drop from out) (omega (arith, length-drop from out)) ∙ sym (take_all n (drop from out) (omega (arith, length-drop from out)))
  | inr many ↦
      let whole : n ≡ 32 = e ∙ min-eq_right many in
      ap (λ k. take k (drop from out)) (sym whole)
])

-- ---- rows of output

-- The row of a number.
pub output_part : List ℕ → ℕ → List ℕ
output_part out k = output_row out (32 * k)

pub output_at : (out : List ℕ) (k from : ℕ) → from ≡ 32 * k → output_row out from ≡ output_part out k
unfolding output_part
output_at out k from e = ap (output_row out) e

-- How many rows there are.
pub rows_count : (n : ℕ) → n / 32 + min 1 (n % 32) ≡ (n + 31) / 32
rows_count n = elim (cases_lt 0 (n % 32)) [
  | inl some ↦
      let one : min 1 (n % 32) ≡ 1 = min-eq_left (omega arith) in
      rw one (omega arith)
  | inr none ↦
      let zero_more : min 1 (n % 32) ≡ n % 32 = min-eq_right (omega arith) in
      rw zero_more (omega arith)
]

pub output_all : (out : List ℕ) (n : ℕ) → n ≡ (length out + 31) / 32 → output_rows out ≡ parts_to (output_part out) n
unfolding parts_to output_part output_rows
output_all out n e = ap (λ k. flat_map (output_part out) (range_with_len 0 k)) (sym e)

-- The line before them, and then the rows.
pub output_whole : (out : List ℕ) → (codes "OUT " ++ decimal (length out) ++ 10 ∷ []) ++ output_rows out ≡ output_text out
unfolding output_rows output_text
output_whole out = ap (λ l. codes "OUT " ++ l) (append_assoc (decimal (length out)) (10 ∷ [])
    (flat_map (λ k. output_row out (32 * k)) (range_with_len 0 ((length out + 31) / 32))))
