-- Records behind an end record, line by line.
use Rattle.std.proofs.Common.{◌≡◌, ◌∙◌, ℕ, ◌+◌, Bool, List, [], ◌∷◌, length, refl, ap, arith}
use Rattle.image_reader.specs.declared.form.TextForm.{TextForm}
use Rattle.model.specs.TextLines.{lines_from, lines_of}
use Rattle.word_info.specs.Behind.{behind_from}

no_lines : (text : List ℕ) → length text ≡ 0 → lines_of text ≡ []
unfolding lines_from
no_lines [] h = refl
no_lines (b ∷ text) h = absurd (omega (arith, h))

none_behind : (form : TextForm) (ended : Bool) → behind_from form ended [] ≡ 0
unfolding behind_from
none_behind form ended = refl

-- all lines are counted
pub all_counted : (form : TextForm) (ended : Bool) (count : ℕ) (rest : List ℕ) → length rest ≡ 0 → count + behind_from form ended (lines_of rest) ≡ count
all_counted form ended count rest h =
    let none = ap (λ (ls : List (List ℕ)). behind_from form ended ls) (no_lines rest h) ∙ none_behind form ended in
    omega (arith, none)
