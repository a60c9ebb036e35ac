-- Names that are used, one expression, item or line after another.
use Rattle.std.proofs.Common.{◌≡◌, ℕ, ◌+◌, ◌<◌, ◌≤◌, List, [], ◌∷◌, length, map, drop, get_or, refl, sym, ap, ◌∙◌}
use Rattle.std.proofs.lemmas.List.{drop_more, drop_all}
use Rattle.line_parts.specs.LineViews.{item_view}
use Rattle.line_parts.specs.TermViews.{term_view}
use Rattle.line_parts.specs.declared.statement.Item.{Item}
use Rattle.line_parts.specs.declared.tree.Expr.{Expr}
use Rattle.model.specs.Names.{Definitions}
use Rattle.warnings.specs.Uses.{used_by, used_in, used_in_item, used_in_items, used_in_line, used_in_terms}
use Rattle.warnings.specs.Views.{placed_view, placed_views}
use Rattle.warnings.specs.declared.placed_line.PlacedLine.{PlacedLine}

first_left : {A : Type 0} → (xs : List A) (i : ℕ) (x : A) → i < length xs → x ≡ get_or xs i x → drop i xs ≡ x ∷ drop (i + 1) xs
first_left xs i x within is = drop_more xs i x within ∙ ap (λ y. y ∷ drop (i + 1) xs) (sym is)

abbrev pub terms_left : List Expr → ℕ → Definitions → Definitions
terms_left es i names = used_in_terms (map term_view (drop i es)) names

pub terms_on : (es : List Expr) (i : ℕ) (e : Expr) (names now total : Definitions) → i < length es → e ≡ get_or es i e
    → now ≡ used_in (term_view e) names → terms_left es i names ≡ total → terms_left es (i + 1) now ≡ total
terms_on es i e names now total within is noted so_far =
    let opened : terms_left es i names ≡ terms_left es (i + 1) (used_in (term_view e) names) = rw (first_left es i e within is) refl in
    ap (λ (n : Definitions). terms_left es (i + 1) n) noted ∙ sym opened ∙ so_far

pub terms_done : (es : List Expr) (i : ℕ) (names total : Definitions) → length es ≤ i → terms_left es i names ≡ total → names ≡ total
terms_done es i names total past so_far = sym (rw (drop_all i es past) refl) ∙ so_far

abbrev pub items_left : List Item → ℕ → Definitions → Definitions
items_left es i names = used_in_items (map item_view (drop i es)) names

pub items_on : (es : List Item) (i : ℕ) (e : Item) (names now total : Definitions) → i < length es → e ≡ get_or es i e
    → now ≡ used_in_item (item_view e) names → items_left es i names ≡ total → items_left es (i + 1) now ≡ total
items_on es i e names now total within is noted so_far =
    let opened : items_left es i names ≡ items_left es (i + 1) (used_in_item (item_view e) names) = rw (first_left es i e within is) refl in
    ap (λ (n : Definitions). items_left es (i + 1) n) noted ∙ sym opened ∙ so_far

pub items_done : (es : List Item) (i : ℕ) (names total : Definitions) → length es ≤ i → items_left es i names ≡ total → names ≡ total
items_done es i names total past so_far = sym (rw (drop_all i es past) refl) ∙ so_far

abbrev pub lines_left : List PlacedLine → ℕ → Definitions → Definitions
lines_left ps i names = used_by (placed_views (drop i ps)) names

pub lines_on : (ps : List PlacedLine) (i : ℕ) (p : PlacedLine) (names now total : Definitions) → i < length ps → p ≡ get_or ps i p
    → now ≡ used_in_line (placed_view p).line names → lines_left ps i names ≡ total → lines_left ps (i + 1) now ≡ total
lines_on ps i p names now total within is noted so_far =
    let opened : lines_left ps i names ≡ lines_left ps (i + 1) (used_in_line (placed_view p).line names) = rw (first_left ps i p within is) refl in
    ap (λ (n : Definitions). lines_left ps (i + 1) n) noted ∙ sym opened ∙ so_far

pub lines_done : (ps : List PlacedLine) (i : ℕ) (names total : Definitions) → length ps ≤ i → lines_left ps i names ≡ total → names ≡ total
lines_done ps i names total past so_far = sym (rw (drop_all i ps past) refl) ∙ so_far
