-- The addresses at which a line can be gone to. Source: Debug Adapter Protocol 1.65, "GotoTargets
-- Request"; that a line at which none begins stands for the next, mos65.
use Rattle.std.specs.Prelude.{ℕ, ◌≡◌, List, [], ◌∷◌, Option, Some, None}
use Rattle.dap_views.specs.Files.{IsNamed}
use Rattle.dap_views.specs.Wanted.{row_in}
use Rattle.dap_views.specs.declared.source.FilePath.{FilePath}
use Rattle.dap_messages.specs.SeenAnswers.{SeenAnswer, SeenItem, goto_target, targets_body}
use Rattle.dap_messages.specs.Counting.{own_line, shown_line}
use Rattle.dap_messages.specs.declared.counting.Counting.{Counting}
use Rattle.source_map.specs.declared.rows.Row.{Row}

-- There is one address, or none.
abbrev pub targets_of : Counting → Option (ℕ × ℕ) → List SeenItem
targets_of counting (Some row) = goto_target row.1 (shown_line counting row.0) ∷ []
targets_of counting None = []

-- Of a file: those of the line that a client names.
abbrev pub own_targets : Counting → List Row → ℕ → Option ℕ → List SeenItem
own_targets counting rows file line = targets_of counting (row_in rows file (own_line counting line))

abbrev pub targets_in : Counting → List Row → Option ℕ → Option ℕ → List SeenItem
targets_in counting rows (Some file) line = own_targets counting rows file line
targets_in counting rows None line = []

-- A line of a file that is named has those.
abbrev pub AreTargets : Counting → List Row → List FilePath → List ℕ → Option ℕ → SeenAnswer → Type 0
AreTargets counting rows files named line v = (file : Option ℕ) × IsNamed files named file
    × (v ≡ targets_body (targets_in counting rows file line))
