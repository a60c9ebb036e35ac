-- Which lines are others, and which events returns, each computed.
use Rattle.std.proofs.Common.{◌≡◌, true, false, Some, None, refl}
use Rattle.line_steps.specs.Lines.{is_other}
use Rattle.line_steps.specs.declared.lines.FileLine.{FileLine}

abbrev line : FileLine
line = record { file = 1; line = 8 }

-- a `while` that jumps back to its own line stays on it
pub same : is_other (Some line) (Some line) ≡ false
same = refl

pub same_number_in_another_file : is_other (Some line) (Some (record line { file = 2 })) ≡ true
same_number_in_another_file = refl

-- within a line none begins; from code without lines each one is another
pub within : is_other (Some line) None ≡ false
within = refl

pub first : is_other None (Some line) ≡ true
first = refl
