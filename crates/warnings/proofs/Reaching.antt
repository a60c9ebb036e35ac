-- What lines write, line by line.
use Rattle.std.proofs.Common.{◌≡◌, ℕ, ◌+◌, ◌<◌, ◌≤◌, List, [], ◌∷◌, ◌++◌, length, map, drop, get_or, Option, Some, None, refl, sym, ap, ◌∙◌, append_assoc, append-nil}
use Rattle.std.proofs.lemmas.List.{drop_more, drop_all}
use Rattle.model.specs.Value.{Numbers}
use Rattle.warnings.specs.Reaches.{reach_of_bytes, reach_of_line, reaches, with_reach}
use Rattle.warnings.specs.declared.written_numbers.Reach.{Reach}
use Rattle.warnings.specs.Placed.{Placed}
use Rattle.warnings.specs.Views.{placed_view, placed_views}
use Rattle.warnings.specs.declared.placed_line.PlacedLine.{PlacedLine}

first_left : (xs : List PlacedLine) (i : ℕ) (x : PlacedLine) → i < length xs → x ≡ get_or xs i x → drop i xs ≡ x ∷ drop (i + 1) xs
first_left xs i x within is = drop_more xs i x within ∙ ap (λ (y : PlacedLine). y ∷ drop (i + 1) xs) (sym is)

-- what was found so far, and what is left
abbrev pub so_on : Numbers → List Reach → ℕ → List PlacedLine → List Reach
so_on numbers rs i ps = rs ++ reaches numbers (placed_views (drop i ps))

-- a reach, if there is one, before others
before : (r : Option Reach) (front rest : List Reach) → (front ++ with_reach r []) ++ rest ≡ front ++ with_reach r rest
before None front rest = ap (λ (x : List Reach). x ++ rest) (append-nil front)
before (Some r) front rest = append_assoc front (r ∷ []) rest

-- a line more
pub goes_on : (numbers : Numbers) (rs more new : List Reach) (i : ℕ) (ps : List PlacedLine) (p : PlacedLine) (total : List Reach) → i < length ps
    → p ≡ get_or ps i p
    → more ≡ rs ++ with_reach (reach_of_bytes (placed_view p).address (placed_view p).size) []
    → new ≡ more ++ with_reach (reach_of_line numbers (placed_view p).address (placed_view p).line) []
    → so_on numbers rs i ps ≡ total → so_on numbers new (i + 1) ps ≡ total
goes_on numbers rs more new i ps p total within is first second so_far =
    let rest : List Reach = reaches numbers (placed_views (drop (i + 1) ps)) in
    let a : Option Reach = reach_of_bytes (placed_view p).address (placed_view p).size in
    let b : Option Reach = reach_of_line numbers (placed_view p).address (placed_view p).line in
    let opened : so_on numbers rs i ps ≡ rs ++ with_reach a (with_reach b rest) = rw (first_left ps i p within is) refl in
    ap (λ (x : List Reach). x ++ rest) second ∙ before b more rest
    ∙ ap (λ (x : List Reach). x ++ with_reach b rest) first ∙ before a rs (with_reach b rest)
    ∙ sym opened ∙ so_far

-- no line is left
pub done : (numbers : Numbers) (rs : List Reach) (i : ℕ) (ps : List PlacedLine) (total : List Reach) → length ps ≤ i → so_on numbers rs i ps ≡ total
    → rs ≡ total
done numbers rs i ps total past so_far = sym (append-nil rs) ∙ sym (rw (drop_all i ps past) refl) ∙ so_far
