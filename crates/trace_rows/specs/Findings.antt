-- The row of a read of memory that nobody ever wrote. Source: mos65.
use Rattle.std.specs.Prelude.{ℕ, Bool, true, false, List, ◌++◌, codes}
use Rattle.model.specs.State.{State}
use Rattle.model.specs.Text.{hex_address}
use Rattle.accesses.specs.declared.moment.Moment.{Moment}
use Rattle.trace_rows.specs.declared.sites.Sites.{Sites}
use Rattle.trace_rows.specs.declared.unwritten.Finding.{Finding}
use Rattle.trace_rows.specs.declared.unwritten.Part.{Part}
use Rattle.trace_rows.specs.declared.unwritten.Part.TheVariants.{Code, Vector}
use Rattle.trace_rows.specs.Steps.{ended_row, row_front, with_executed}
use Rattle.formatting.specs.Padding.{padded}

-- Whether a byte is read for the vector of an entry.
abbrev pub is_vector : Part → Bool
is_vector Vector = true
is_vector part = false

abbrev pub verb : Part → List ℕ
verb Code = codes "runs "
verb part = codes "reads "

-- What is read.
abbrev pub read_text : Finding → List ℕ
read_text finding = verb finding.part ++ hex_address finding.address ++ codes ", never written"

-- The number of the step, the address, what was executed, and what is read.
unfoldable pub finding_front : State → Moment → Finding → List ℕ
finding_front state moment finding = padded 40 (with_executed (is_vector finding.part)
    state.bus.map.profile moment (row_front finding.step moment) ++ codes "  ")
    ++ read_text finding

unfoldable pub finding_row : State → Sites → Moment → Finding → List ℕ
finding_row state sites moment finding = ended_row (record { label = 72; line = 86 }) sites
    moment.regs.pc (finding_front state moment finding)
