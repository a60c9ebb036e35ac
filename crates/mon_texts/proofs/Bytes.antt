-- Bytes of memory that are appended one after another, and rows likewise.
use Rattle.std.proofs.Common.{◌≡◌, ◌∙◌, ℕ, suc, ◌+◌, ◌-◌, ◌<◌, ◌≤◌, List, ◌∷◌, ◌++◌, length, take, drop, get_or, sym, ap, arith, append_assoc, append-nil}
use Rattle.std.proofs.Math.Seq.{drop-cons}
use Rattle.std.specs.List.{flat_map, range_with_len}
use Rattle.mon_texts.specs.Memory.{bytes_from}

pub next_byte : (memory : List ℕ) (first offset count : ℕ) → first + offset < length memory → offset < count
    → bytes_from memory (first + offset) (count - offset)
    ≡ get_or memory (first + offset) 0 ∷ bytes_from memory (first + (offset + 1)) (count - (offset + 1))
next_byte memory first offset count within more =
    let n : count - offset ≡ suc (count - (offset + 1)) = omega arith in
    let a : suc (first + offset) ≡ first + (offset + 1) = omega arith in
    ap (λ k. take k (drop (first + offset) memory)) n
    ∙ ap (λ m. take (suc (count - (offset + 1))) m) (drop-cons memory (first + offset) 0 within
    ∙ ap (λ k. get_or memory (first + offset) 0 ∷ drop k memory) a)

-- No byte so far.
pub none_yet : (f : ℕ → List ℕ) (memory : List ℕ) (first offset count : ℕ) (text : List ℕ) → offset ≡ 0
    → text ++ flat_map f (bytes_from memory (first + offset) (count - offset))
    ≡ text ++ flat_map f (bytes_from memory first count)
none_yet f memory first offset count text none =
    let a : first + offset ≡ first = omega arith in
    let n : count - offset ≡ count = omega arith in
    ap (λ k. text ++ flat_map f (bytes_from memory k (count - offset))) a
    ∙ ap (λ k. text ++ flat_map f (bytes_from memory first k)) n

-- One more of them.
pub one_more : (f : ℕ → List ℕ) (memory : List ℕ) (first offset count : ℕ) (text next whole : List ℕ)
    → first + offset < length memory → offset < count
    → next ≡ text ++ f (get_or memory (first + offset) 0)
    → text ++ flat_map f (bytes_from memory (first + offset) (count - offset)) ≡ whole
    → next ++ flat_map f (bytes_from memory (first + (offset + 1)) (count - (offset + 1))) ≡ whole
one_more f memory first offset count text next whole within more grown before =
    let e = next_byte memory first offset count within more in
    ap (λ t. t ++ flat_map f (bytes_from memory (first + (offset + 1)) (count - (offset + 1)))) grown
    ∙ (append_assoc text (f (get_or memory (first + offset) 0)) _
    ∙ (sym (ap (λ xs. text ++ flat_map f xs) e) ∙ before))

-- All of them.
pub all_done : (f : ℕ → List ℕ) (memory : List ℕ) (first offset count : ℕ) (text whole : List ℕ)
    → count ≤ offset
    → text ++ flat_map f (bytes_from memory (first + offset) (count - offset)) ≡ whole → text ≡ whole
all_done f memory first offset count text whole past e =
    let n : count - offset ≡ 0 = omega arith in
    sym (append-nil text)
    ∙ (sym (ap (λ k. text ++ flat_map f (bytes_from memory (first + offset) k)) n) ∙ e)

-- ---- rows by their numbers

pub next_row : (row rows : ℕ) → row < rows
    → range_with_len row (rows - row) ≡ row ∷ range_with_len (row + 1) (rows - (row + 1))
next_row row rows more =
    let n : rows - row ≡ suc (rows - (row + 1)) = omega arith in
    ap (λ k. range_with_len row k) n

pub one_more_row : (f : ℕ → List ℕ) (row rows : ℕ) (text next whole : List ℕ) → row < rows
    → next ≡ text ++ f row
    → text ++ flat_map f (range_with_len row (rows - row)) ≡ whole
    → next ++ flat_map f (range_with_len (row + 1) (rows - (row + 1))) ≡ whole
one_more_row f row rows text next whole more grown before =
    ap (λ t. t ++ flat_map f (range_with_len (row + 1) (rows - (row + 1)))) grown
    ∙ (append_assoc text (f row) _
    ∙ (sym (ap (λ xs. text ++ flat_map f xs) (next_row row rows more)) ∙ before))

pub all_rows : (f : ℕ → List ℕ) (row rows : ℕ) (text whole : List ℕ) → rows ≤ row
    → text ++ flat_map f (range_with_len row (rows - row)) ≡ whole → text ≡ whole
all_rows f row rows text whole past e =
    let n : rows - row ≡ 0 = omega arith in
    sym (append-nil text) ∙ (sym (ap (λ k. text ++ flat_map f (range_with_len row k)) n) ∙ e)
