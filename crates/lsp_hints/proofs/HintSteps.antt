-- The way along what is found of the lines of a source.
use Rattle.std.proofs.Common.{◌≡◌, ◌∙◌, ℕ, ◌+◌, ◌<◌, ◌≤◌, true, false, List, [], ◌∷◌, ◌++◌, length, drop, refl, sym, ap, append_assoc, append-nil, get_or, add-one, drop-cons}
use Rattle.std.proofs.lemmas.List.{drop_all}
use Rattle.lsp_hints.specs.Hints.{hints_at, hints_from, is_refused}
use Rattle.model.specs.declared.instruction.Profile.{Profile}
use Rattle.serde_json.specs.Data.{Data}
use Rattle.source_faults.specs.Views.{found_all, found_view}
use Rattle.source_faults.specs.declared.found.Found.{Found}

abbrev pub hints_left : Profile → List (List ℕ) → ℕ × ℕ → List Found → ℕ → List Data
hints_left profile lines between found i = hints_from profile lines between i (found_all (drop i found))

cut : (found : List Found) (i : ℕ) (d : Found) → i < length found → drop i found ≡ get_or found i d ∷ drop (i + 1) found
cut found i d within = rw (add-one, drop-cons found i d) refl

opened : (profile : Profile) (lines : List (List ℕ)) (between : ℕ × ℕ) (found : List Found) (i : ℕ) (d : Found) → i < length found → d ≡ get_or found i d
    → hints_left profile lines between found i ≡ hints_from profile lines between i (found_view d ∷ found_all (drop (i + 1) found))
opened profile lines between found i d within is =
    ap (λ (fs : List Found). hints_from profile lines between i (found_all fs)) (cut found i d within ∙ sym (ap (λ (f : Found). f ∷ drop (i + 1) found) is))

-- a line without a fault of the layout
pub one_line : (profile : Profile) (lines : List (List ℕ)) (between : ℕ × ℕ) (found : List Found) (i : ℕ) (d : Found) (old new whole : List Data)
    → i < length found → d ≡ get_or found i d
    → is_refused (found_view d) ≡ false → new ≡ old ++ hints_at profile lines between i (found_view d) → old ++ hints_left profile lines between found i ≡ whole
    → new ++ hints_left profile lines between found (i + 1) ≡ whole
unfolding hints_from
one_line profile lines between found i d old new whole within is right put so_far =
    let piece = hints_at profile lines between i (found_view d) in
    let behind = hints_left profile lines between found (i + 1) in
    let at : hints_left profile lines between found i ≡ piece ++ behind = opened profile lines between found i d within is ∙ rw right refl in
    ap (λ (ds : List Data). ds ++ behind) put ∙ append_assoc old piece behind ∙ sym (ap (λ (ds : List Data). old ++ ds) at) ∙ so_far

-- a line with one
pub stopped : (profile : Profile) (lines : List (List ℕ)) (between : ℕ × ℕ) (found : List Found) (i : ℕ) (d : Found) (old whole : List Data)
    → i < length found → d ≡ get_or found i d
    → is_refused (found_view d) ≡ true → old ++ hints_left profile lines between found i ≡ whole → old ≡ whole
unfolding hints_from
stopped profile lines between found i d old whole within is wrong so_far =
    let at : hints_left profile lines between found i ≡ [] = opened profile lines between found i d within is ∙ rw wrong refl in
    sym (append-nil old) ∙ sym (ap (λ (ds : List Data). old ++ ds) at) ∙ so_far

pub at_end : (profile : Profile) (lines : List (List ℕ)) (between : ℕ × ℕ) (found : List Found) (i : ℕ) (old whole : List Data) → length found ≤ i
    → old ++ hints_left profile lines between found i ≡ whole → old ≡ whole
unfolding hints_from
at_end profile lines between found i old whole past so_far =
    let at : hints_left profile lines between found i ≡ [] = rw (drop_all i found past) refl in
    sym (append-nil old) ∙ sym (ap (λ (ds : List Data). old ++ ds) at) ∙ so_far
