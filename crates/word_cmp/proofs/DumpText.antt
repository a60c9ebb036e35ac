-- What is said last ends with a line's end, if it is not empty.
use Rattle.std.proofs.Common.{◌≡◌, ◌∙◌, ◌⊎◌, ℕ, List, [], ◌∷◌, ◌++◌, length, inl, inr, refl, sym, ap, subst, append_assoc, append-nil}
use Rattle.std.specs.List.{flat_map}
use Rattle.std.proofs.lemmas.Bool.{cases_Bool}
use Rattle.std.specs.Prelude.{◌==◌}
use Rattle.dump_faults.specs.Changes.{changes_of}
use Rattle.dump_faults.specs.Faults.{faults_between, stuck_between}
use Rattle.dump_faults.specs.declared.changes.Change.{Change}
use Rattle.dump_faults.specs.declared.faults.Fault.{Fault}
use Rattle.tape_words.specs.Answers.{EndsLine}
use Rattle.word_cmp.specs.DifferenceRows.{SideView}
use Rattle.word_cmp.specs.DumpRows.{changes_text, count_row, dump_text, fault_row, fault_rows, stuck_row, stuck_rows}

abbrev NothingOrLines : List ℕ → Type 0
NothingOrLines text = (text ≡ []) ⊎ EndsLine text

ends_behind : (front text : List ℕ) → EndsLine text → EndsLine (front ++ text)
ends_behind front text ends = (front ++ ends.0, ap (λ (t : List ℕ). front ++ t) ends.1 ∙ sym (append_assoc front ends.0 (10 ∷ [])))

-- lines, and then nothing or lines
lines_then : (row rest : List ℕ) → EndsLine row → NothingOrLines rest → EndsLine (row ++ rest)
lines_then row rest ends (inl none) = rw (none, append-nil) ends
lines_then row rest ends (inr lines) = ends_behind row rest lines

either_then : (text rest : List ℕ) → NothingOrLines text → NothingOrLines rest → NothingOrLines (text ++ rest)
either_then text rest (inl none) more = rw none more
either_then text rest (inr lines) more = inr (lines_then text rest lines more)

all_lines : {X : Type 0} (f : X → List ℕ) → ((x : X) → EndsLine (f x)) → (xs : List X) → NothingOrLines (flat_map f xs)
all_lines f each [] = inl refl
all_lines f each (x ∷ xs) = inr (lines_then (f x) (flat_map f xs) (each x) (all_lines f each xs))

count_ends : (one other : SideView) (changes : List Change) → EndsLine (count_row one other changes)
unfolding count_row
count_ends one other changes = (_, refl)

changes_end : (one other : SideView) (changes : List Change) → NothingOrLines (changes_text one other changes)
changes_end one other changes = elim (cases_Bool (length changes == 0)) [
  | inl t ↦ rw t (inl refl)
  | inr f ↦ rw f (inr (count_ends one other changes))
]

row_ends : (one other : SideView) (fault : Fault) → EndsLine (fault_row one other fault)
unfolding fault_row
row_ends one other fault = (_, refl)

dump_ends : (one other : SideView) → NothingOrLines (dump_text one other)
unfolding dump_text
dump_ends one other =
    let changed = changes_end one other (changes_of one.image other.image) in
    let stuck = all_lines (stuck_row one other) (λ s. row_ends one other _) (stuck_between one.image other.image) in
    let faults = all_lines (fault_row one other) (row_ends one other) (faults_between one.image other.image) in
    let back = all_lines (stuck_row other one) (λ s. row_ends other one _) (stuck_between other.image one.image) in
    either_then _ (stuck_rows other one) (either_then _ (fault_rows one other) (either_then _ (stuck_rows one other) changed stuck) faults) back

-- Rows, and what is said last.
pub ends : (one other : SideView) (rows : List ℕ) → EndsLine rows → EndsLine (rows ++ dump_text one other)
ends one other rows lines = lines_then rows (dump_text one other) lines (dump_ends one other)

-- The same of a text that is these.
pub said_ends : (one other : SideView) (rows said : List ℕ) → said ≡ rows ++ dump_text one other → EndsLine rows → EndsLine said
said_ends one other rows said e lines = subst EndsLine (sym e) (ends one other rows lines)
