-- Bytes of memory one after another, as variables and as they are.
use Rattle.std.proofs.Common.{◌≡◌, ◌∙◌, ℕ, zero, suc, ◌+◌, ◌-◌, ◌<◌, ◌≤◌, List, [], ◌∷◌, ◌++◌, length, get_or, sym, ap, arith, append_assoc, append-nil, subst}
use Rattle.dap_messages.specs.declared.request.Page.{Page}
use Rattle.dap_messages.specs.SeenAnswers.{SeenItem}
use Rattle.dap_views.specs.Pages.{IsPage}
use Rattle.dap_views.specs.Scopes.{cell, cells}
use Rattle.dap_views.specs.declared.paged.Paged.{Paged}
use Rattle.mon_texts.specs.Memory.{bytes_from}
use Rattle.mon_texts.proofs.Bytes.{next_byte}

-- one behind the others
cells_behind : (memory : List ℕ) (a n : ℕ) → cells memory a (suc n) ≡ cells memory a n ++ cell memory (a + n) ∷ []
unfolding cells
cells_behind memory a zero = let e : a ≡ a + 0 = omega arith in ap (λ (k : ℕ). cell memory k ∷ []) e
cells_behind memory a (suc n) =
    let e : (a + 1) + n ≡ a + suc n = omega arith in
    ap (λ (ds : List SeenItem). cell memory a ∷ ds) (cells_behind memory (a + 1) n)
    ∙ ap (λ (k : ℕ). cell memory a ∷ (cells memory (a + 1) n ++ cell memory k ∷ [])) e

pub cells_none : (memory : List ℕ) (from : ℕ) → [] ≡ cells memory from (from - from)
unfolding cells
cells_none memory from = let n : 0 ≡ from - from = omega arith in ap (cells memory from) n

pub cells_more : (memory : List ℕ) (from address : ℕ) (asked : Page) (made : Paged) → from ≤ address
    → IsPage asked (cells memory from (address - from) ++ cell memory address ∷ []) made → IsPage asked (cells memory from ((address + 1) - from)) made
cells_more memory from address asked made behind is =
    let n : (address + 1) - from ≡ suc (address - from) = omega arith in
    let at : from + (address - from) ≡ address = omega arith in
    let one : cells memory from ((address + 1) - from) ≡ cells memory from (address - from) ++ cell memory address ∷ []
    = ap (cells memory from) n ∙ cells_behind memory from (address - from) ∙ ap (λ (k : ℕ). cells memory from (address - from) ++ cell memory k ∷ []) at in
    subst (λ (ds : List SeenItem). IsPage asked ds made) (sym one) is

pub bytes_more : (memory : List ℕ) (first offset count : ℕ) (found new : List ℕ) (whole : List ℕ) → first + offset < length memory → offset < count
    → new ≡ found ++ get_or memory (first + offset) 0 ∷ [] → found ++ bytes_from memory (first + offset) (count - offset) ≡ whole
    → new ++ bytes_from memory (first + (offset + 1)) (count - (offset + 1)) ≡ whole
bytes_more memory first offset count found new whole within more put so_far =
    let rest = bytes_from memory (first + (offset + 1)) (count - (offset + 1)) in
    ap (λ t. t ++ rest) put ∙ append_assoc found (get_or memory (first + offset) 0 ∷ []) rest
    ∙ sym (ap (λ xs. found ++ xs) (next_byte memory first offset count within more)) ∙ so_far

pub bytes_begin : (memory : List ℕ) (first count : ℕ) (found : List ℕ) → found ≡ []
    → found ++ bytes_from memory (first + 0) (count - 0) ≡ bytes_from memory first count
bytes_begin memory first count found none =
    let a : first + 0 ≡ first = omega arith in
    let n : count - 0 ≡ count = omega arith in
    ap (λ bs. bs ++ bytes_from memory (first + 0) (count - 0)) none ∙ ap (λ k. bytes_from memory k (count - 0)) a ∙ ap (λ k. bytes_from memory first k) n

pub bytes_done : (memory : List ℕ) (first offset count : ℕ) (found whole : List ℕ) → count ≤ offset
    → found ++ bytes_from memory (first + offset) (count - offset) ≡ whole → found ≡ whole
bytes_done memory first offset count found whole past so_far =
    let n : count - offset ≡ 0 = omega arith in
    sym (append-nil found) ∙ sym (ap (λ k. found ++ bytes_from memory (first + offset) k) n) ∙ so_far
