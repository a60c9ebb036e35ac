-- What a screen shows after a line, and which line is meant while an answer has further pages. Source:
-- mos65.
use Rattle.std.specs.Prelude.{◌≡◌, ⊤, ℕ, ◌==◌, Bool, true, false, if◌then◌else◌, List, [], ◌∷◌, codes, Option, None, Some, Result, Ok, Err}
use Rattle.std.specs.Str.{byte}
use Rattle.mon_lines.specs.Lines.{SeenCommand, SeenSlip, draw, mem}
use Rattle.mon_lines.specs.declared.command.Drawing.{Drawing}
use Rattle.mon_lines.specs.declared.command.Drawing.TheVariants as drawing
use Rattle.mon_lines.specs.declared.command.Stretch.{Stretch}
use Rattle.mon_screen.specs.Limits.{limited}
use Rattle.mon_screen.specs.View.{has_more, next_skipped}
use Rattle.mon_screen.specs.declared.size.Size.{Size}
use Rattle.mon_screen.specs.declared.view.View.{View}
use Rattle.mon_session.specs.declared.mon_state.MonState.{MonState}

-- The size of a screen: the one that is asked for, otherwise any that a screen can have.
abbrev pub IsSizeFor : Option (ℕ × ℕ) → Size → Type 0
IsSizeFor None size = ⊤
IsSizeFor (Some asked) size
    = (size.columns ≡ limited 80 250 asked.0) × (size.rows ≡ limited 24 100 asked.1)

-- ---- what is shown after a line

-- The memory that a line asks for, otherwise what was shown before it.
abbrev pub stretch_in : SeenCommand → Stretch → Stretch
stretch_in (mem stretch) shown = stretch
stretch_in command shown = shown

abbrev pub stretch_by : Result SeenCommand SeenSlip → Stretch → Stretch
stretch_by (Ok command) shown = stretch_in command shown
stretch_by (Err slip) shown = shown

-- What a screen shows after a line that is served at a state of `mon`: registers and cycles there
-- are those before the line.
abbrev pub served_view : Result SeenCommand SeenSlip → MonState → View → View
served_view asked mon view = record {
  size = view.size;
  stretch = stretch_by asked view.stretch;
  regs = mon.session.current.regs;
  cycles = Some mon.session.current.cycles;
  skipped = 0;
}

-- How a line has the screen drawn that shows the last answer again.
abbrev pub drawing_in : SeenCommand → Option Drawing
drawing_in (draw drawing) = Some drawing
drawing_in command = None

abbrev pub drawing_by : Result SeenCommand SeenSlip → Option Drawing
drawing_by (Ok command) = drawing_in command
drawing_by (Err slip) = None

-- Then nothing else changes: the next page, the first one, or that of another size.
abbrev pub IsRedrawn : Drawing → View → View → Type 0
IsRedrawn drawing.More old new = new ≡ record old { skipped = next_skipped old }
IsRedrawn drawing.Clear old new = new ≡ record old { skipped = 0 }
IsRedrawn (drawing.Size columns rows) old new = IsSizeFor (Some (columns, rows)) new.size
    × (new.stretch ≡ old.stretch) × (new.regs ≡ old.regs) × (new.cycles ≡ old.cycles)
    × (new.skipped ≡ 0)

abbrev pub IsViewBy : Option Drawing → Result SeenCommand SeenSlip → MonState → View → View → Type 0
IsViewBy (Some drawing) asked mon old new = IsRedrawn drawing old new
IsViewBy None asked mon old new = new ≡ served_view asked mon old

-- A screen is drawn after a line if one was before.
abbrev pub IsViewAfter : Result SeenCommand SeenSlip → MonState → Option View → Option View → Type 0
IsViewAfter asked mon None new = new ≡ None
IsViewAfter asked mon (Some old) None = ⊥
IsViewAfter asked mon (Some old) (Some new) = IsViewBy (drawing_by asked) asked mon old new

-- ---- pages

-- Whether the answer that a screen shows has lines on no page so far.
abbrev pub has_pages_of : Option View → List ℕ → Bool
has_pages_of None answered = false
has_pages_of (Some view) answered = has_more view answered

-- The line that a typed one stands for: while there are further pages, an empty line turns the page,
-- and `q` leaves the answer.
abbrev pub meant_by : Bool → List ℕ → List ℕ
meant_by true [] = codes "screen more"
meant_by true (b ∷ []) = if b == byte "q" then codes "screen clear" else b ∷ []
meant_by has_pages line = line
