-- Breakpoints one after another, and instructions one after another.
use Rattle.std.proofs.Common.{◌≡◌, ℕ, zero, suc, ◌+◌, ◌-◌, ◌<◌, ◌≤◌, min, List, [], ◌∷◌, ◌++◌, refl, sym, ap, ◌∙◌, take, drop, length, get_or, arith, length-drop, append-nil, take-append-drop, inl, inr}
use Rattle.std.specs.Prelude.{codes, slice_index}
use Rattle.std.specs.List.{flat_map}
use Rattle.std.proofs.lemmas.List.{take_more, get_or-drop, take_all}
use Rattle.std.proofs.lemmas.Grind.{flat_map-append}
use Rattle.std.proofs.lemmas.Bool.{le-leb, lt-leb, cases_lt}
use Rattle.model.specs.Text.{address_part, breaks_line}
use Rattle.model.specs.declared.instruction.Profile.{Profile}
use Rattle.model.specs.Disassembly.{bytes_from, row_in, row_line, rows_in}

-- ---- breakpoints

-- The first n of the addresses.
pub addresses_to : List ℕ → ℕ → List ℕ
addresses_to breaks n = flat_map address_part (take n breaks)

pub addresses_none : (breaks : List ℕ) → addresses_to breaks 0 ≡ []
unfolding addresses_to
addresses_none breaks = refl

pub addresses_more : (breaks : List ℕ) (n : ℕ) → n < length breaks → addresses_to breaks (n + 1) ≡ addresses_to breaks n ++ address_part (slice_index breaks n)
unfolding addresses_to
addresses_more breaks n within =
    ap (flat_map address_part) (take_more breaks n 0 within) ∙ flat_map-append address_part (take n breaks) (get_or breaks n 0 ∷ [])
    ∙ ap (λ l. flat_map address_part (take n breaks) ++ l) (append-nil (address_part (get_or breaks n 0)))

pub addresses_front : (breaks : List ℕ) (n : ℕ) → (more : List ℕ) × (flat_map address_part breaks ≡ addresses_to breaks n ++ more)
unfolding addresses_to
addresses_front breaks n = (
  flat_map address_part (drop n breaks),
  ap (flat_map address_part) (sym (take-append-drop n breaks))
      ∙ flat_map-append address_part (take n breaks) (drop n breaks),
)

pub addresses_all : (breaks : List ℕ) (n : ℕ) → length breaks ≤ n → flat_map address_part breaks ≡ addresses_to breaks n
unfolding addresses_to
addresses_all breaks n all = ap (flat_map address_part) (sym (take_all n breaks all))

-- ---- instructions

pub rows_past : (profile : Profile) (memory : List ℕ) (address n : ℕ) → 65535 < address → rows_in profile memory 65535 address n ≡ []
unfolding rows_in
rows_past profile memory address zero past = refl
rows_past profile memory address (suc n) past = rw (lt-leb address 65535 past) refl

pub rows_none : (profile : Profile) (memory : List ℕ) (address n : ℕ) → n ≡ 0 → rows_in profile memory 65535 address n ≡ []
unfolding rows_in
rows_none profile memory address n none = rw none refl

pub rows_more : (profile : Profile) (memory : List ℕ) (address n : ℕ) → address ≤ 65535 → 0 < n
    → rows_in profile memory 65535 address n ≡ row_line address (bytes_from memory address) (row_in profile memory address)
    ++ rows_in profile memory 65535 (address + (row_in profile memory address).len) (n - 1)
unfolding rows_in
rows_more profile memory address zero here some = absurd (omega arith)
rows_more profile memory address (suc n) here some =
    let less : n ≡ suc n - 1 = omega arith in
    rw (le-leb address 65535 here) (ap (λ k. row_line address (bytes_from memory address) (row_in profile memory address)
    ++ rows_in profile memory 65535 (address + (row_in profile memory address).len) k) less)

-- ---- the bytes of an instruction

pub bytes_first : (memory : List ℕ) (address : ℕ) → address < length memory → take 1 (drop address memory) ≡ slice_index memory address ∷ []
bytes_first memory address within =
    let inside : 0 < length (drop address memory) = omega (arith, length-drop address memory) in
    take_more (drop address memory) 0 0 inside ∙ ap (λ b. b ∷ [])
    (get_or-drop address memory 0 0 ∙ ap (λ k. get_or memory k 0) (let e : address + 0 ≡ address = omega arith in e))

pub bytes_more : (memory : List ℕ) (address n : ℕ) → address + 1 + n < length memory
    → take (n + 1) (drop address memory) ++ slice_index memory (address + 1 + n) ∷ [] ≡ take (n + 1 + 1) (drop address memory)
bytes_more memory address n within =
    let inside : n + 1 < length (drop address memory) = omega (arith, length-drop address memory) in
    sym (take_more (drop address memory) (n + 1) 0 inside ∙ ap (λ b. take (n + 1) (drop address memory) ++ b ∷ [])
    (get_or-drop address memory (n + 1) 0 ∙ ap (λ k. get_or memory k 0) (let e : address + (n + 1) ≡ address + 1 + n = omega arith in e)))

pub bytes_all : (memory : List ℕ) (address more : ℕ) → length memory ≡ 65536 → address ≤ 65535 → more ≡ min (65535 - address) 2
    → take (more + 1) (drop address memory) ≡ bytes_from memory address
bytes_all memory address more size here e = elim (cases_lt (65535 - address) 2) [
  | inl few ↦
      take_all (more + 1) (drop address memory) (omega (arith, length-drop address memory))
      ∙ sym (take_all 3 (drop address memory) (omega (arith, length-drop address memory)))
  | inr many ↦
      let three : more + 1 ≡ 3 = omega arith in
      ap (λ k. take k (drop address memory)) three
]

-- ---- the line of breakpoints

pub breaks_whole : (breaks : List ℕ) → codes "BREAKS" ++ (flat_map address_part breaks ++ 10 ∷ []) ≡ breaks_line breaks
unfolding breaks_line
breaks_whole breaks = refl
