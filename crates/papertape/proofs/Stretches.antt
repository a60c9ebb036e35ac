-- The maximal runs and their pieces, as one pass over the cells meets them: what has been taken
-- already is counted.
use Rattle.std.proofs.Common.{◌≡◌, ℕ, zero, suc, ◌+◌, ◌*◌, ◌/◌, ◌≤◌, Bool, true, false, List, [], ◌∷◌, ◌++◌, length, map, take, drop, Option, Some, None, refl, sym, ap, ◌∙◌, arith}
use Rattle.std.specs.Prelude.{◌-◌, ◌==◌}
use Rattle.std.specs.List.{flat_map, range_with_len}
use Rattle.std.proofs.lemmas.Bool.{ne_eqb, eq-eqb, cases_Bool}
use Rattle.std.proofs.lemmas.List.{drop-drop, length-drop}
use Rattle.std.proofs.Common.{inl, inr}
use Rattle.model.specs.TapeText.{Stretch, before_runs, runs, piece_of_run, pieces_of_run}

-- the bytes at the front, up to the first cell with nothing
abbrev pub front_run : List (Option ℕ) → List ℕ
front_run [] = []
front_run (None ∷ cells) = []
front_run (Some b ∷ cells) = b ∷ front_run cells

-- the runs, where the cell before is in a run that has been taken, or in none
abbrev pub runs_after : Bool → ℕ → List (Option ℕ) → List Stretch
runs_after taken address [] = []
runs_after taken address (None ∷ cells) = runs_after false (address + 1) cells
runs_after true address (Some b ∷ cells) = runs_after true (address + 1) cells
runs_after false address (Some b ∷ cells) = (address, b ∷ front_run cells) ∷ runs_after true (address + 1) cells

-- the pieces of bytes, where the first `taken` bytes are in a piece before
abbrev pub pieces_after : ℕ → ℕ → List ℕ → List Stretch
pieces_after taken address [] = []
pieces_after (suc taken) address (b ∷ bytes) = pieces_after taken (address + 1) bytes
pieces_after zero address (b ∷ bytes) = (address, b ∷ take 23 bytes) ∷ pieces_after 23 (address + 1) bytes

abbrev pub pieces_within : Stretch → List Stretch
pieces_within run = pieces_after 0 run.0 run.1

-- ---- runs

-- the first run begins at an address or after it
abbrev Behind : ℕ → List Stretch → Type 0
Behind n [] = Unit {0}
Behind n (run ∷ rest) = n ≤ run.0

further : (n : ℕ) (rs : List Stretch) → Behind (n + 1) rs → Behind n rs
further n [] h = tt
further n (run ∷ rest) h = omega (arith, h)

begins_there : (n b : ℕ) (rs : List Stretch) → Behind n (before_runs n b rs)
begins_there n b [] = omega arith
begins_there n b (run ∷ rest) = elim (cases_Bool (run.0 == n + 1)) [
  | inl t ↦ rw t (omega arith)
  | inr f ↦ rw f (omega arith)
]

behind : (n : ℕ) (cells : List (Option ℕ)) → Behind n (runs n cells)
behind n [] = tt
behind n (None ∷ cells) = further n (runs (n + 1) cells) (behind (n + 1) cells)
behind n (Some b ∷ cells) = begins_there n b (runs (n + 1) cells)

-- a byte with nothing after it is a run of its own
alone : (n b : ℕ) (rs : List Stretch) → Behind (n + 1 + 1) rs → before_runs n b rs ≡ (n, b ∷ []) ∷ rs
alone n b [] h = refl
alone n b (run ∷ rest) h = rw (ne_eqb run.0 (n + 1) (λ e. omega (arith, h, e))) refl

Counted : List (Option ℕ) → Type 0
Counted cells = ((n : ℕ) → runs n cells ≡ runs_after false n cells)
    × ((n b : ℕ) → runs n (Some b ∷ cells) ≡ (n, b ∷ front_run cells) ∷ runs_after true (n + 1) cells)

counted : (cells : List (Option ℕ)) → Counted cells
unfolding Counted
counted [] = (λ n. refl, λ n b. refl)
counted (None ∷ cells) =
    let next = (counted cells).0 in (
      λ n. next (n + 1),
      λ n b. alone n b (runs (n + 1 + 1) cells) (behind (n + 1 + 1) cells) ∙ ap (λ (rs : List Stretch). (n, b ∷ []) ∷ rs) (next (n + 1 + 1)),
    )
counted (Some c ∷ cells) =
    let next = (counted cells).1 in (
      λ n. next n c,
      λ n b. ap (λ (rs : List Stretch). before_runs n b rs) (next (n + 1) c) ∙ rw (eq-eqb (n + 1) (n + 1) refl) refl,
    )

pub runs_are : (cells : List (Option ℕ)) → runs 0 cells ≡ runs_after false 0 cells
unfolding Counted
runs_are cells = (counted cells).0 0

-- ---- pieces

skipped : (taken address : ℕ) (bytes : List ℕ) → pieces_after taken address bytes ≡ pieces_after 0 (address + taken) (drop taken bytes)
skipped zero address bytes = let same : address ≡ address + 0 = omega arith in ap (λ a. pieces_after 0 a bytes) same
skipped (suc taken) address [] = refl
skipped (suc taken) address (b ∷ bytes) =
    let same : address + 1 + taken ≡ address + suc taken = omega arith in
    skipped taken (address + 1) bytes ∙ ap (λ a. pieces_after 0 a (drop taken bytes)) same

-- the pieces after the first are those of the run after it
shifted : (address : ℕ) (bytes : List ℕ) (n s : ℕ)
    → map (λ k. piece_of_run (address, bytes) k) (range_with_len (s + 1) n) ≡ map (λ k. piece_of_run (address + 24, drop 24 bytes) k) (range_with_len s n)
shifted address bytes zero s = refl
shifted address bytes (suc n) s =
    let there : address + 24 * (s + 1) ≡ address + 24 + 24 * s = omega arith in
    let place : 24 * (s + 1) ≡ 24 + 24 * s = omega arith in
    let them : drop (24 * (s + 1)) bytes ≡ drop (24 * s) (drop 24 bytes) = ap (λ k. drop k bytes) place ∙ sym (drop-drop (24 * s) 24 bytes) in
    ap (λ a. (a, take 24 (drop (24 * (s + 1)) bytes)) ∷ map (λ k. piece_of_run (address, bytes) k) (range_with_len (s + 1 + 1) n)) there
    ∙ ap (λ (bs : List ℕ). (address + 24 + 24 * s, take 24 bs) ∷ map (λ k. piece_of_run (address, bytes) k) (range_with_len (s + 1 + 1) n)) them
    ∙ ap (λ (ps : List Stretch). (address + 24 + 24 * s, take 24 (drop (24 * s) (drop 24 bytes))) ∷ ps) (shifted address bytes n (s + 1))

cut : (most address : ℕ) (bytes : List ℕ) → length bytes ≤ most → pieces_of_run (address, bytes) ≡ pieces_after 0 address bytes
cut most address [] h = refl
cut zero address (b ∷ bytes) h = absurd (omega (arith, h))
cut (suc most) address (b ∷ bytes) h =
    let left = drop 23 bytes in
    let n = (length left + 23) / 24 in
    let long : length left ≡ length bytes - 23 = length-drop 23 bytes in
    let count : (length (b ∷ bytes) + 23) / 24 ≡ suc n = omega (arith, long) in
    let start : address + 24 * 0 ≡ address = omega arith in
    let there : address + 24 ≡ address + 1 + 23 = omega arith in
    ap (λ m. map (λ k. piece_of_run (address, b ∷ bytes) k) (range_with_len 0 m)) count
    ∙ ap (λ a. (a, b ∷ take 23 bytes) ∷ map (λ k. piece_of_run (address, b ∷ bytes) k) (range_with_len 1 n)) start
    ∙ ap (λ (ps : List Stretch). (address, b ∷ take 23 bytes) ∷ ps)
    (shifted address (b ∷ bytes) n 0 ∙ cut most (address + 24) left (omega (arith, long, h)) ∙ ap (λ a. pieces_after 0 a left) there
    ∙ sym (skipped 23 (address + 1) bytes))

pub pieces_are : (rs : List Stretch) → flat_map pieces_of_run rs ≡ flat_map pieces_within rs
pieces_are [] = refl
pieces_are (run ∷ rs) = ap (λ (ps : List Stretch). ps ++ flat_map pieces_of_run rs) (cut (length run.1) run.0 run.1 (omega arith))
    ∙ ap (λ (ps : List Stretch). pieces_within run ++ ps) (pieces_are rs)
