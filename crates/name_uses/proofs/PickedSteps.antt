-- The uses of one name, one use after another.
use Rattle.std.proofs.Common.{◌≡◌, ◌∙◌, ℕ, ◌+◌, ◌<◌, ◌≤◌, true, false, List, [], ◌∷◌, ◌++◌, length, drop, refl, sym, ap, append_assoc, append-nil, get_or, add-one, drop-cons}
use Rattle.std.proofs.lemmas.List.{drop_all, map-append}
use Rattle.name_uses.specs.Uses.{Use}
use Rattle.name_uses.specs.Views.{use_view, use_views}
use Rattle.name_uses.specs.declared.name_use.NameUse.{NameUse}
use Rattle.name_uses.specs.Picked.{is_picked, picked}
use Rattle.name_uses.specs.declared.picks.Part.{Part}

-- those from an index on
abbrev pub picked_left : Part → List ℕ → List NameUse → ℕ → List Use
picked_left part name uses i = picked part name (use_views (drop i uses))

opened : (part : Part) (name : List ℕ) (uses : List NameUse) (i : ℕ) (d : NameUse) → i < length uses
    → picked_left part name uses i ≡ picked part name (use_view (get_or uses i d) ∷ use_views (drop (i + 1) uses))
opened part name uses i d within =
    let cut : drop i uses ≡ get_or uses i d ∷ drop (i + 1) uses = rw (add-one, drop-cons uses i d) refl in
    ap (λ (us : List NameUse). picked part name (use_views us)) cut

pub other_name : (part : Part) (name : List ℕ) (uses : List NameUse) (i : ℕ) (d : NameUse) (found whole : List Use) → i < length uses
    → is_picked part name (use_view (get_or uses i d)) ≡ false
    → found ++ picked_left part name uses i ≡ whole → found ++ picked_left part name uses (i + 1) ≡ whole
other_name part name uses i d found whole within other so_far =
    let at : picked_left part name uses i ≡ picked_left part name uses (i + 1) = opened part name uses i d within ∙ rw other refl in
    sym (ap (λ (us : List Use). found ++ us) at) ∙ so_far

pub one_more : (part : Part) (name : List ℕ) (uses : List NameUse) (i : ℕ) (d : NameUse) (old new : List NameUse) (whole : List Use) → i < length uses
    → is_picked part name (use_view (get_or uses i d)) ≡ true
    → new ≡ old ++ get_or uses i d ∷ [] → use_views old ++ picked_left part name uses i ≡ whole → use_views new ++ picked_left part name uses (i + 1) ≡ whole
one_more part name uses i d old new whole within same put so_far =
    let left = picked_left part name uses (i + 1) in
    let at : picked_left part name uses i ≡ use_view (get_or uses i d) ∷ left = opened part name uses i d within ∙ rw same refl in
    let pushed : use_views new ≡ use_views old ++ use_view (get_or uses i d) ∷ [] = ap use_views put ∙ map-append use_view old (get_or uses i d ∷ []) in
    ap (λ (us : List Use). us ++ left) pushed ∙ append_assoc (use_views old) (use_view (get_or uses i d) ∷ []) left
    ∙ sym (ap (λ (us : List Use). use_views old ++ us) at) ∙ so_far

pub picked_done : (part : Part) (name : List ℕ) (uses : List NameUse) (i : ℕ) (found whole : List Use) → length uses ≤ i
    → found ++ picked_left part name uses i ≡ whole → found ≡ whole
picked_done part name uses i found whole past so_far =
    let none : picked_left part name uses i ≡ [] = rw (drop_all i uses past) refl in
    sym (append-nil found) ∙ sym (ap (λ (us : List Use). found ++ us) none) ∙ so_far
