-- The way along the uses whose lines are said.
use Rattle.std.proofs.Common.{◌≡◌, ◌∙◌, ℕ, ◌+◌, ◌<◌, ◌≤◌, List, [], ◌∷◌, ◌++◌, length, get_or, drop, refl, sym, ap, add-one, append_assoc, append-nil, drop-cons}
use Rattle.std.proofs.lemmas.List.{drop_all}
use Rattle.std.proofs.lemmas.List.Concat.{flat_map-cons}
use Rattle.std.proofs.lemmas.List.Folds.{flat_map-map}
use Rattle.std.specs.List.{flat_map}
use Rattle.lsp_answers.specs.Said.{line_words}
use Rattle.name_uses.specs.Views.{use_view, use_views}
use Rattle.name_uses.specs.declared.name_use.NameUse.{NameUse}

abbrev pub said_line : NameUse → List ℕ
said_line u = line_words (use_view u)

-- the lines of the uses from an index on
abbrev pub lines_left : List NameUse → ℕ → List ℕ
lines_left uses i = flat_map said_line (drop i uses)

pub one_line : (uses : List NameUse) (i : ℕ) (d : NameUse) (old new whole : List ℕ) → i < length uses → new ≡ old ++ said_line (get_or uses i d)
    → old ++ lines_left uses i ≡ whole → new ++ lines_left uses (i + 1) ≡ whole
one_line uses i d old new whole within put so_far =
    let cut : drop i uses ≡ get_or uses i d ∷ drop (i + 1) uses = rw (add-one, drop-cons uses i d within) refl in
    let at : lines_left uses i ≡ said_line (get_or uses i d) ++ lines_left uses (i + 1) =
    ap (flat_map said_line) cut ∙ flat_map-cons said_line (get_or uses i d) (drop (i + 1) uses) in
    ap (λ (t : List ℕ). t ++ lines_left uses (i + 1)) put ∙ append_assoc old (said_line (get_or uses i d)) (lines_left uses (i + 1))
    ∙ ap (λ (t : List ℕ). old ++ t) (sym at) ∙ so_far

pub lines_said : (uses : List NameUse) (i : ℕ) (found before : List ℕ) → length uses ≤ i → found ++ lines_left uses i ≡ before ++ flat_map said_line uses
    → found ≡ before ++ flat_map line_words (use_views uses)
lines_said uses i found before past so_far =
    let none : lines_left uses i ≡ [] = ap (flat_map said_line) (drop_all i uses past) in
    sym (append-nil found) ∙ sym (ap (λ (t : List ℕ). found ++ t) none) ∙ so_far
    ∙ ap (λ (t : List ℕ). before ++ t) (sym (flat_map-map line_words use_view uses))
