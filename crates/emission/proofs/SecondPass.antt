-- The second pass, line by line.
use Rattle.std.proofs.Common.{◌≡◌, ℕ, ◌+◌, ◌≤◌, ◌<◌, List, ◌∷◌, length, drop, get_or, Option, Result, Ok, Err, ◌⊎◌, inl, inr, refl, sym, ◌∙◌, ap}
use Rattle.std.proofs.lemmas.List.{drop_more, drop_all}
use Rattle.model.specs.State.{Map}
use Rattle.model.specs.Value.{Numbers}
use Rattle.model.specs.declared.source_fault.AsmFault.{AsmFault}
use Rattle.model.specs.declared.source_fault.AsmFaultKind.{AsmFaultKind}
use Rattle.law_sources.specs.Judging.{image_with_line}
use Rattle.line_parts.specs.declared.kept_line.KeptLine.{KeptLine}
use Rattle.line_parts.specs.declared.fault.LineError.{LineError}
use Rattle.line_parts.specs.declared.fault.LineError.TheVariants as errors
use Rattle.line_parts.specs.LineFaults.{out_of_memory}
use Rattle.emission.specs.Made.{image_of_lines}
use Rattle.emission.specs.Gathering.{Stores}
use Rattle.line_parts.specs.LineFaults.{fault_on_line}
use Rattle.line_parts.specs.KeptLines.{numbered_lines, placed_line_of}

abbrev Cells : Type 0
Cells = List (Option ℕ)

abbrev Total : Type 0
Total = Result Cells AsmFault

first_left : (ks : List KeptLine) (i : ℕ) (k : KeptLine) → i < length ks → k ≡ get_or ks i k → drop i ks ≡ k ∷ drop (i + 1) ks
first_left ks i k within is = drop_more ks i k within ∙ ap (λ (y : KeptLine). y ∷ drop (i + 1) ks) (sym is)

-- a line without a fault
pub puts_on : (m : Map) (numbers : Numbers) (image new : Cells) (ks : List KeptLine) (i : ℕ) (k : KeptLine) (total : Total)
    → i < length ks → k ≡ get_or ks i k → image_with_line m numbers image (placed_line_of k) ≡ Ok new
    → image_of_lines m numbers image (numbered_lines (drop i ks)) ≡ total → image_of_lines m numbers new (numbered_lines (drop (i + 1) ks)) ≡ total
puts_on m numbers image new ks i k total within is here so_far = sym (rw (first_left ks i k within is, here) refl) ∙ so_far

-- a line with a fault
puts_fault : (m : Map) (numbers : Numbers) (image : Cells) (ks : List KeptLine) (i : ℕ) (k : KeptLine) (kind : AsmFaultKind) (total : Total)
    → i < length ks → k ≡ get_or ks i k → image_with_line m numbers image (placed_line_of k) ≡ Err kind
    → image_of_lines m numbers image (numbered_lines (drop i ks)) ≡ total → total ≡ Err (record { line = k.number; kind = kind })
puts_fault m numbers image ks i k kind total within is here so_far = sym so_far ∙ rw (first_left ks i k within is, here) refl

-- a line with a fault, or a refused request for memory
pub puts_error : (m : Map) (numbers : Numbers) (image left : Cells) (ks : List KeptLine) (i : ℕ) (k : KeptLine) (e : LineError) (answer : AsmFault)
    (total : Total)
    → i < length ks → k ≡ get_or ks i k → Stores (Err e) left (image_with_line m numbers image (placed_line_of k)) → answer ≡ fault_on_line k.number e
    → image_of_lines m numbers image (numbered_lines (drop i ks)) ≡ total → (answer ≡ out_of_memory) ⊎ (total ≡ Err answer)
puts_error m numbers image left ks i k errors.Memory answer total within is here answered so_far = inl answered
puts_error m numbers image left ks i k (errors.Kind kind) answer total within is here answered so_far =
    inr (puts_fault m numbers image ks i k kind total within is here so_far ∙ ap (λ (x : AsmFault). Err x) (sym answered))

-- no line is left
pub puts_end : (m : Map) (numbers : Numbers) (image : Cells) (ks : List KeptLine) (i : ℕ) (total : Total) → length ks ≤ i
    → image_of_lines m numbers image (numbered_lines (drop i ks)) ≡ total → total ≡ Ok image
puts_end m numbers image ks i total past so_far = sym so_far ∙ rw (drop_all i ks past) refl
