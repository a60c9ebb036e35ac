-- Rows of memory, a row at a time.
use Rattle.std.proofs.Common.{◌≡◌, ℕ, zero, suc, ◌+◌, ◌-◌, ◌≤◌, ◌<◌, List, [], ◌∷◌, ◌++◌, length, take, drop, min, refl, sym, ap, ◌∙◌, append_assoc, arith, length-drop, length-take}
use Rattle.std.proofs.lemmas.Bool.{le-leb, lt-leb}
use Rattle.model.specs.declared.instruction.Profile.{Profile}
use Rattle.model.specs.InstructionText.{row_of}
use Rattle.std.proofs.Math.Seq.{take-length}
use Rattle.model.specs.Disassembly.{row_line, bytes_from, row_in, rows_in}

-- as many as there are, and at most three
pub front : (xs : List ℕ) → take (min (length xs) 3) xs ≡ take 3 xs
front [] = refl
front (a ∷ []) = refl
front (a ∷ b ∷ []) = refl
front (a ∷ b ∷ c ∷ xs) = let three : min (length (a ∷ b ∷ c ∷ xs)) 3 ≡ 3 = omega arith in rw three refl

-- the row at an address stands before the others
pub next_row : (profile : Profile) (memory : List ℕ) (last address left : ℕ) → 0 < left → address ≤ last
    → rows_in profile memory last address left ≡ row_line address (bytes_from memory address) (row_in profile memory address)
    ++ rows_in profile memory last (address + (row_in profile memory address).len) (left - 1)
unfolding rows_in
next_row profile memory last address zero some in_range = absurd (omega (arith, some))
next_row profile memory last address (suc n) some in_range = let one : suc n - 1 ≡ n = omega arith in rw (one, le-leb address last in_range) refl

-- a turn of the loop
pub turn : (profile : Profile) (memory out new bytes total : List ℕ) (last address left len : ℕ) → 0 < left → address ≤ last → bytes ≡ bytes_from memory address
    → new ≡ out ++ row_line address bytes (row_of profile bytes address) → len ≡ (row_of profile bytes address).len
    → out ++ rows_in profile memory last address left ≡ total
    → new ++ rows_in profile memory last (address + len) (left - 1) ≡ total
turn profile memory out new bytes total last address left len some in_range is put long so_far =
    rw (put, long, is) (append_assoc out (row_line address (bytes_from memory address) (row_in profile memory address))
    (rows_in profile memory last (address + (row_in profile memory address).len) (left - 1))
    ∙ ap (λ (x : List ℕ). out ++ x) (sym (next_row profile memory last address left some in_range)) ∙ so_far)

-- the bytes from an address on, three of them or fewer
pub window : (memory : List ℕ) (address n : ℕ) → n ≡ min (length (take (length memory - address) (drop address memory))) 3
    → take n (take (length memory - address) (drop address memory)) ≡ bytes_from memory address
window memory address n is =
    let all : take (length memory - address) (drop address memory) ≡ drop address memory =
    ap (λ (k : ℕ). take k (drop address memory)) (sym (length-drop address memory)) ∙ take-length (drop address memory) in
    rw is (rw all (front (drop address memory)))

-- a row ends within memory
pub row_within : (memory bytes : List ℕ) (address len : ℕ) → address < 65536 → length memory ≡ 65536 → bytes ≡ bytes_from memory address
    → len ≤ length bytes → address + len ≤ 65536
row_within memory bytes address len below size is short =
    let long : length bytes ≡ min 3 (length (drop address memory)) = ap length is ∙ length-take 3 (drop address memory) in
    omega (arith, length-drop address memory)

-- after the last row
pub behind : (profile : Profile) (memory : List ℕ) (last address left : ℕ) → last < address → rows_in profile memory last address left ≡ []
unfolding rows_in
behind profile memory last address zero past = refl
behind profile memory last address (suc n) past = rw (lt-leb address last past) refl

-- no row is left
pub no_row : (profile : Profile) (memory : List ℕ) (last address : ℕ) → rows_in profile memory last address 0 ≡ []
unfolding rows_in
no_row profile memory last address = refl
