-- Forwards by lines, over the states of a run. Source: mos65.
use Rattle.std.specs.Prelude.{ℕ, ◌&&◌, Bool, true, false, not, List, Option}
use Rattle.model.specs.Session.{Session}
use Rattle.model.specs.declared.run_end.Why.{Why}
use Rattle.model.specs.declared.run_end.Why.TheVariants as why
use Rattle.line_steps.specs.Calls.{is_within_call, state_on}
use Rattle.line_steps.specs.Lines.{begun, is_other}
use Rattle.line_steps.specs.Numbers.{first_or_last}
use Rattle.line_steps.specs.declared.lines.FileLine.{FileLine}
use Rattle.line_steps.specs.declared.lines.LineStart.{LineStart}

-- Whether another line begins at the state after k steps, and the state is within no call of them.
abbrev pub is_line_on : List LineStart → Option FileLine → Session → ℕ → Bool
is_line_on lines from s k
    = is_other from (begun lines (state_on s k)) && not (is_within_call s k)

-- How many steps lead to the first such state: as many as are made at most, if none of them does.
abbrev pub steps_to_line : List LineStart → Option FileLine → ℕ → Session → ℕ
steps_to_line lines from limit s = first_or_last limit (is_line_on lines from s)

-- Whether a run ends because as many steps were made as it was to make.
abbrev pub is_limit : Why → Bool
is_limit why.Limit = true
is_limit (why.Break address) = false
is_limit (why.Watch address) = false
is_limit (why.Refused fault) = false
