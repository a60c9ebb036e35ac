-- Looking changes no state. Source: mos65.
use Rattle.std.specs.Prelude.{◌≡◌, ℕ, ◌≤◌, ◌==◌, Bool, true, false, if◌then◌else◌, List, [], ◌∷◌, map}
use Rattle.model.specs.Session.{Session}
use Rattle.model.specs.Run.{run_end, without_stops}
use Rattle.model.specs.Back.{states}
use Rattle.model.specs.Commands.{command_of, most_steps}
use Rattle.model.specs.Transcript.{answer_to, serving}
use Rattle.model.specs.declared.command.Command.{Command}
use Rattle.model.specs.declared.command.Command.TheVariants.{Regs, Mem, Out, Run, Break, Unbreak, Watch, Unwatch, Breaks, Dis, Nothing, Bad}

-- Whether a command only looks: it is a view, it sets or clears a breakpoint or a watchpoint, or it
-- is an empty or a bad line.
unfoldable pub is_look : Command → Bool
is_look Regs = true
is_look (Mem first last) = true
is_look Out = true
is_look (Dis address count) = true
is_look Breaks = true
is_look (Break address) = true
is_look (Unbreak address) = true
is_look (Watch address) = true
is_look (Unwatch address) = true
is_look Nothing = true
is_look Bad = true
is_look command = false

-- A run of as many steps, if there are any.
abbrev pub run_again : ℕ → List Command → List Command
run_again k rest = if k == 0 then rest else Run k ∷ rest

-- What is kept of a command before the rest: nothing of a look; of a run, the steps that it made.
unfoldable pub without_look : Command → Session → List Command → List Command
without_look (Run n) s rest = run_again (run_end n s).did rest
without_look command s rest = if is_look command then rest else command ∷ rest

-- What is kept of some commands, from a session on.
unfoldable pub without_looks : Session → List Command → List Command
without_looks s [] = []
without_looks s (command ∷ commands) = without_look command s (without_looks (answer_to command s).session commands)

-- Looking is harmless: lines for what is kept of other lines, served with no breakpoint and no
-- watchpoint set, lead to the same states.
abbrev pub LooksAreHarmless : Type 0
LooksAreHarmless = (s : Session) (lines others : List (List ℕ))
    → map command_of others ≡ without_looks s (map command_of lines) →
    states (serving (without_stops s) others).session ≡ states (serving s lines).session

-- Each run that a line may ask for has a line that asks for it.
abbrev pub EachRunHasALine : Type 0
EachRunHasALine = (k : ℕ) → 1 ≤ k → k ≤ most_steps → (line : List ℕ) × (command_of line ≡ Run k)

-- There are lines for what is kept of other lines, whatever these ask for. So there is always
-- something to compare looking with.
abbrev pub WhatIsKeptHasLines : Type 0
WhatIsKeptHasLines = (s : Session) (lines : List (List ℕ))
    → (others : List (List ℕ)) × (map command_of others ≡ without_looks s (map command_of lines))
