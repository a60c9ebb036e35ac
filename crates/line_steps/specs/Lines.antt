-- Lines of a source that begin where states are. Source: mos65.
use Rattle.std.specs.Prelude.{◌==◌, ◌&&◌, Bool, true, false, not, find, List, Option, Some, None}
use Rattle.std.specs.Option.{option_map}
use Rattle.model.specs.State.{State}
use Rattle.line_steps.specs.declared.lines.FileLine.{FileLine}
use Rattle.line_steps.specs.declared.lines.LineStart.{LineStart}

-- The line that begins at a state, if one does: of lines that begin at one address the first counts.
abbrev pub begun : List LineStart → State → Option FileLine
begun lines state
    = option_map (λ start. start.line) (find (λ start. start.address == state.regs.pc) lines)

-- Whether a line begins that is not a certain one.
abbrev pub is_other : Option FileLine → Option FileLine → Bool
is_other from None = false
is_other None (Some line) = true
is_other (Some from) (Some line) = not (from.file == line.file && from.line == line.line)
