-- A text from a line on, one line after another, and changes of a text, one after another.
use Rattle.std.proofs.Common.{◌≡◌, ◌∙◌, ℕ, ◌+◌, ◌-◌, ◌<◌, ◌≤◌, zero, suc, List, [], ◌∷◌, Option, length, drop, get_or, arith, refl, sym, ap, add-one, drop-cons}
use Rattle.std.proofs.lemmas.List.{drop_all, nil_from_length}
use Rattle.lsp_messages.specs.TextChanges.{change_of, changed_by, changed_text}
use Rattle.lsp_messages.specs.TextPlaces.{behind_line, from_line}
use Rattle.serde_json.specs.View.{items_view, view}
use Rattle.serde_json.specs.declared.value.Value.{Value}

next_line : (line left : ℕ) (text : List ℕ) → line ≡ left + 1 → from_line line text ≡ from_line left (behind_line text)
unfolding from_line
next_line line left text is = rw (is, add-one) refl

-- nothing has no line
no_lines : (line : ℕ) → from_line line [] ≡ []
unfolding from_line
no_lines zero = refl
no_lines (suc line) = no_lines line

-- one line more
pub line_more : (left : ℕ) (rest behind whole : List ℕ) → 0 < left → behind ≡ behind_line rest → from_line left rest ≡ whole
    → from_line (left - 1) behind ≡ whole
line_more left rest behind whole some is so_far = rw is (sym (next_line left (left - 1) rest (omega (arith, some))) ∙ so_far)

-- no line, or nothing, is left
pub none_left : (left : ℕ) (rest whole : List ℕ) → left ≤ 0 → from_line left rest ≡ whole → rest ≡ whole
unfolding from_line
none_left zero rest whole none so_far = so_far
none_left (suc left) rest whole none so_far = absurd (omega (arith, none))

pub no_text : (left : ℕ) (rest whole : List ℕ) → length rest ≡ 0 → from_line left rest ≡ whole → rest ≡ whole
no_text left rest whole none so_far =
    let is = nil_from_length rest none in is ∙ sym (no_lines left) ∙ ap (from_line left) (sym is) ∙ so_far

pub no_changes : (text : Option (List ℕ)) (all : List Value) (i : ℕ) → length all ≤ i → changed_text text (items_view (drop i all)) ≡ text
unfolding changed_text
no_changes text all i past = rw (drop_all i all past) refl

pub one_change : (text made : Option (List ℕ)) (all : List Value) (i : ℕ) (e : Value) → i < length all
    → made ≡ changed_by text (change_of (view (get_or all i e)))
    → changed_text text (items_view (drop i all)) ≡ changed_text made (items_view (drop (i + 1) all))
unfolding changed_text
one_change text made all i e within is =
    let cut : drop i all ≡ get_or all i e ∷ drop (i + 1) all = rw add-one (drop-cons all i e within) in
    ap (λ (vs : List Value). changed_text text (items_view vs)) cut ∙ ap (λ (t : Option (List ℕ)). changed_text t (items_view (drop (i + 1) all))) (sym is)
