-- Which lines of its input a session of `mon` serves, in which order, and what it writes.
-- Source: mos65.
use Rattle.std.specs.Prelude.{ℕ, ◌≡◌, ◌⊎◌, Bool, true, false, if◌then◌else◌, List, [], ◌∷◌, ◌++◌, Option, Result, Ok, Err, codes}
use Rattle.std.specs.Io.BufRead.{strip_last}
use Rattle.std.specs.Io.KnownBytes.{Consumes, IsAtEnd}
use Rattle.model.specs.TextLines.{ended_lines_of, lines_from}
use Rattle.model.specs.Writers.{AppendsFront}
use Rattle.word_mon.specs.declared.wording.TheConstants.{PROMPT}
use Rattle.mon_dispatch.specs.Lines.{Says, Serves, read_at}
use Rattle.mon_files.specs.Pages.{ShowsPage}
use Rattle.mon_lines.specs.Lines.{SeenCommand, SeenLine, SeenSlip, draw, page, reload, save}
use Rattle.word_mon.specs.Files.{Reloads}
use Rattle.word_mon.specs.Notes.{notes_after, placed_in}
use Rattle.word_mon.specs.Screens.{IsKept, Rests, answer_text, meant, said_again, without_screen}
use Rattle.word_mon.specs.Views.{IsViewAfter}
use Rattle.word_mon.specs.declared.terminal.Terminal.{Terminal}

-- ---- the lines of an input

-- At the end of the input, what comes after the last LF is a line if it is not empty. One CR at its
-- end is not part of it, as before an LF.
abbrev pub line_at_end : List ℕ → List (List ℕ)
line_at_end [] = []
line_at_end (b ∷ bs) = strip_last 13 (b ∷ bs) ∷ []

-- The lines of a whole input.
abbrev pub input_lines : List ℕ → List (List ℕ)
input_lines input = lines_from line_at_end [] input

-- ---- one line

-- What a line leaves at a terminal besides its state: a screen shows what it shows after the line,
-- and the line is noted if it has placed something.
pub record IsNoted (asked : Result SeenCommand SeenSlip) (line : List ℕ) (old new : Terminal) : Type 0
  where
    pub view : IsViewAfter asked old.mon old.view new.view
    pub notes : new.notes.items ≡ notes_after new.mon (placed_in asked)
        old.mon.session.current.regs.pc line old.notes.items
    pub loaded : new.loaded ≡ old.loaded
    pub words : new.words ≡ old.words
    pub answered : new.answered ≡ old.answered

-- The session is shown on a page: it goes back and comes again.
pub record IsShown (old new : Terminal) : Type 0 where
  pub shown : ShowsPage old.mon new.mon
  pub view : new.view ≡ old.view
  pub notes : new.notes ≡ old.notes
  pub loaded : new.loaded ≡ old.loaded
  pub words : new.words ≡ old.words

-- What a line does that asks for something of a file, or for a screen. A line that saves says
-- something and changes nothing else. Which bytes a file gets, no clause can say: those of the image
-- that is saved, or of the page of the session, as `mon_files` defines them. A line that has the
-- screen drawn again says what it showed of an answer. Any other line does nothing.
abbrev pub Obeys : SeenCommand → Terminal → Terminal → Type 0
Obeys (save file stretch) old new
    = Rests old new × (said : List ℕ) × Says said old.mon new.mon
Obeys (page file) old new = IsShown old new
Obeys (draw drawing) old new
    = Rests old new × Says (said_again drawing old.answered.items) old.mon new.mon
Obeys reload old new = Reloads old new
Obeys command old new = new ≡ old

abbrev pub ObeysRead : Result SeenCommand SeenSlip → Terminal → Terminal → Type 0
ObeysRead (Ok command) old new = Obeys command old new
ObeysRead (Err slip) old new = new ≡ old

-- A line does what it asks for and is noted, then what it asks for of a file or of the screen is
-- done, and so much is said, which is kept for a screen. Then only the text changes, which is
-- written.
abbrev pub ServesRead : SeenLine → List ℕ → Bool → Terminal → Terminal → List ℕ → Type 0
ServesRead read line is_over old new said = (served : Terminal)
    × Serves read is_over old.mon served.mon × IsNoted read.asked line old served
    × (obeyed : Terminal) × ObeysRead read.asked served obeyed
    × Says said old.mon obeyed.mon × (kept : Terminal) × IsKept obeyed kept × Rests kept new

-- A line is read once, as the one that is meant.
unfoldable pub ServesLine : List ℕ → Bool → Terminal → Terminal → List ℕ → Type 0
ServesLine line is_over old new said
    = ServesRead (read_at old.mon (meant old line)) line is_over old new said

-- ---- lines one after another

-- Lines are served one after another, up to one that ends the session. `is_over` says whether there
-- is such a line. Between lines only the text changes. What is said of each line is written, or a
-- screen with it, and a prompt behind it unless the session is over.
unfoldable pub ServesLines : List ℕ → List (List ℕ) → Bool → Terminal → Terminal → List ℕ → Type 0
ServesLines prompt [] is_over old new written
    = (is_over ≡ false) × Rests old new × (written ≡ [])
ServesLines prompt (line ∷ lines) is_over old new written = (begun : Terminal) × Rests old begun
    × (said : List ℕ)
    × (((is_over ≡ true) × ServesLine line true begun new said
    × (written ≡ answer_text true prompt new said))
    ⊎ ((between : Terminal) × (rest : List ℕ) × ServesLine line false begun between said
    × ServesLines prompt lines is_over between new rest
    × (written ≡ answer_text false prompt between said ++ rest)))

-- At the end of the input a line end is written if prompts are. Then a last line that has no LF is
-- served, behind which no screen is drawn and no prompt written.
abbrev pub EndsLines : List ℕ → List ℕ → List ℕ → Bool → Terminal → Terminal → List ℕ → Type 0
EndsLines prompt line_end told is_over old new written = (last : List (List ℕ))
    × (input_lines told ≡ ended_lines_of told ++ last)
    × (between : Terminal) × (first : List ℕ) × (rest : List ℕ)
    × ServesLines prompt (ended_lines_of told) false old between first
    × ServesLines [] last is_over (without_screen between) new rest
    × (written ≡ first ++ (line_end ++ rest))

-- ---- a session

-- What is written if prompts are asked for: before each line, and at the end of the input.
abbrev pub prompt_of : Bool → List ℕ
prompt_of prompts = if prompts then PROMPT.now else []

abbrev pub line_end_of : Bool → List ℕ
line_end_of prompts = if prompts then codes "\n" else []

-- Of what a reader gave, the complete lines were served up to one that ended the session; or it
-- gave its whole input, and the lines of that were served.
abbrev pub IsAttended : Bool → Option (List ℕ) → Option (List ℕ) → Terminal → Terminal → List ℕ → Type 0
IsAttended prompts given left old new written = (told : List ℕ) × Consumes given left told
    × (rest : List ℕ) × (written ≡ prompt_of prompts ++ rest)
    × (ServesLines (prompt_of prompts) (ended_lines_of told) true old new rest
    ⊎ ((is_over : Bool) × IsAtEnd left
    × EndsLines (prompt_of prompts) (line_end_of prompts) told is_over old new rest))

-- The complete lines that were read so far were served, and none of them ended the session.
abbrev pub IsAttendedSoFar : Bool → Option (List ℕ) → Option (List ℕ) → Terminal → Terminal → List ℕ
    → Type 0
IsAttendedSoFar prompts given left old new written = (told : List ℕ) × Consumes given left told
    × (rest : List ℕ) × (written ≡ prompt_of prompts ++ rest)
    × ServesLines (prompt_of prompts) (ended_lines_of told) false old new rest

-- Some of the lines that have ended in some bytes were served, from the first on.
abbrev pub ServesSome : List ℕ → List ℕ → Terminal → Terminal → List ℕ → Type 0
ServesSome prompt told old new written = (lines : List (List ℕ)) × (later : List (List ℕ))
    × (ended_lines_of told ≡ lines ++ later)
    × (is_over : Bool) × ServesLines prompt lines is_over old new written

-- Of what a reader gave, some of the complete lines were served, from the first on; or it gave its
-- whole input, and the lines of that were served.
abbrev pub IsAttendedInPart : Bool → Option (List ℕ) → Option (List ℕ) → Terminal → Terminal → List ℕ
    → Type 0
IsAttendedInPart prompts given left old new written = (told : List ℕ) × Consumes given left told
    × (rest : List ℕ) × (written ≡ prompt_of prompts ++ rest)
    × (ServesSome (prompt_of prompts) told old new rest
    ⊎ ((is_over : Bool) × IsAtEnd left
    × EndsLines (prompt_of prompts) (line_end_of prompts) told is_over old new rest))

-- So much was served, and a beginning of what is written of it was written, behind what is shown
-- first.
abbrev pub AttendsInPart : Bool → List ℕ → Terminal → Option (List ℕ) → Option (List ℕ)
    → Option (List ℕ) → Option (List ℕ) → Type 0
AttendsInPart prompts shown first given left held now = (last : Terminal) × (written : List ℕ)
    × IsAttendedInPart prompts given left first last written
    × AppendsFront held now (shown ++ written)
