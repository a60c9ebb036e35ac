-- The writer's cuts are the pieces of the maximal runs.
use Rattle.std.proofs.Common.{◌≡◌, ℕ, zero, suc, ◌+◌, min, true, false, List, [], ◌∷◌, ◌++◌, length, take, Option, Some, None, refl, sym, ap, ◌∙◌, arith}
use Rattle.std.specs.List.{flat_map}
use Rattle.model.specs.TapeText.{Stretch, runs, written_pieces}
use Rattle.papertape.proofs.Stretches.{front_run, runs_after, pieces_after, pieces_within, runs_are, pieces_are}
use Rattle.papertape.specs.Writing.{front_bytes, cuts}

front_taken : (n : ℕ) (cells : List (Option ℕ)) → front_bytes n cells ≡ take n (front_run cells)
front_taken zero cells = refl
front_taken (suc n) [] = refl
front_taken (suc n) (None ∷ cells) = refl
front_taken (suc n) (Some b ∷ cells) = ap (λ (bs : List ℕ). b ∷ bs) (front_taken n cells)

front_count : (n : ℕ) (cells : List (Option ℕ)) → length (front_bytes n cells) ≡ min n (length (front_run cells))
front_count zero cells = omega arith
front_count (suc n) [] = omega arith
front_count (suc n) (None ∷ cells) = omega arith
front_count (suc n) (Some b ∷ cells) = let h = front_count n cells in omega (arith, h)

abbrev rest_of : ℕ → List (Option ℕ) → List Stretch
rest_of address cells = flat_map pieces_within (runs_after true address cells)

abbrev Within : List (Option ℕ) → ℕ → Type 0
Within cells address = (covered taken : ℕ) → covered ≡ min taken (length (front_run cells))
    → cuts address covered cells ≡ pieces_after taken address (front_run cells) ++ rest_of address cells

abbrev Outside : List (Option ℕ) → ℕ → Type 0
Outside cells address = cuts address 0 cells ≡ flat_map pieces_within (runs_after false address cells)

-- a piece begins
begun : (b : ℕ) (cells : List (Option ℕ)) (address : ℕ) → Within cells (address + 1) → Outside (Some b ∷ cells) address
begun b cells address h =
    ap (λ (bs : List ℕ). (address, b ∷ bs) ∷ cuts (address + 1) (length (front_bytes 23 cells)) cells) (front_taken 23 cells)
    ∙ ap (λ (ps : List Stretch). (address, b ∷ take 23 (front_run cells)) ∷ ps) (h (length (front_bytes 23 cells)) 23 (front_count 23 cells))

went_on : (b : ℕ) (cells : List (Option ℕ)) (address : ℕ) → Within cells (address + 1) → Within (Some b ∷ cells) address
went_on b cells address h covered zero e =
    let z : covered ≡ 0 = omega (arith, e) in
    ap (λ (k : ℕ). cuts address k (Some b ∷ cells)) z ∙ begun b cells address h
went_on b cells address h covered (suc taken) e =
    let z : covered ≡ suc (min taken (length (front_run cells))) = omega (arith, e) in
    ap (λ (k : ℕ). cuts address k (Some b ∷ cells)) z ∙ h (min taken (length (front_run cells))) taken refl

both : (cells : List (Option ℕ)) (address : ℕ) → Within cells address × Outside cells address
both [] address = (λ covered taken e. refl, refl)
both (None ∷ cells) address =
    let next = both cells (address + 1) in (
      λ covered taken e. (let z : covered ≡ 0 = omega (arith, e) in ap (λ (k : ℕ). cuts address k (None ∷ cells)) z ∙ next.1),
      next.1,
    )
both (Some b ∷ cells) address =
    let next = both cells (address + 1) in (went_on b cells address next.0, begun b cells address next.0)

pub cuts_pieces : (cells : List (Option ℕ)) → cuts 0 0 cells ≡ written_pieces cells
cuts_pieces cells = (both cells 0).1 ∙ ap (λ (rs : List Stretch). flat_map pieces_within rs) (sym (runs_are cells)) ∙ sym (pieces_are (runs 0 cells))
