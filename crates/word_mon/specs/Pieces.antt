-- What was served of an input that comes in pieces, where the beginning of a line is kept.
-- Source: mos65.
use Rattle.std.specs.Prelude.{ℕ, ◌≡◌, ◌⊎◌, Bool, true, false, List, [], ◌++◌, take, Option}
use Rattle.model.specs.TextLines.{lines_from}
use Rattle.model.specs.Writers.{AppendsFront}
use Rattle.word_mon.specs.Attended.{EndsLines, ServesLine, ServesLines, ServesSome}
use Rattle.word_mon.specs.Screens.{answer_text}
use Rattle.word_mon.specs.declared.terminal.Terminal.{Terminal}

-- The lines that have ended in some bytes were served, and none of them ended the session. Of the
-- line begun after them no more than 257 bytes are kept: 255, one CR, and one that makes the line
-- too long.
pub record GoesOn (prompt told kept : List ℕ) (old new : Terminal) (written : List ℕ) : Type 0 where
  pub lines : List (List ℕ)
  pub begun : List ℕ
  pub cut : (ending : List ℕ → List (List ℕ)) (rest : List ℕ)
      → lines_from ending [] (told ++ rest) ≡ lines ++ lines_from ending begun rest
  pub front : kept ≡ take 257 begun
  pub served : ServesLines prompt lines false old new written

-- A line that has ended in some bytes ended the session, whatever comes after them.
abbrev pub IsOver : List ℕ → List ℕ → Terminal → Terminal → List ℕ → Type 0
IsOver prompt told old new written = (ending : List ℕ → List (List ℕ)) (rest : List ℕ)
    → ServesLines prompt (lines_from ending [] (told ++ rest)) true old new written

-- What some bytes lead to: the session goes on, or it is over.
abbrev pub LeadsTo : Bool → List ℕ → List ℕ → List ℕ → Terminal → Terminal → List ℕ → Type 0
LeadsTo false prompt told kept old new written = GoesOn prompt told kept old new written
LeadsTo true prompt told kept old new written = IsOver prompt told old new written

-- A piece of an input that is served: its bytes, the prompt behind each line, the terminal and the
-- beginning of a line that is kept, before and then, whether the session is over then, and what is
-- written.
pub record Piece : Type 0 where
  pub bytes : List ℕ
  pub prompt : List ℕ
  pub old : Terminal
  pub kept : List ℕ
  pub new : Terminal
  pub kept_then : List ℕ
  pub is_over : Bool
  pub written : List ℕ

-- The bytes of a piece lead from what was served before them to what is served then.
abbrev pub ServesPiece : Piece → Type 0
ServesPiece piece = (told : List ℕ) (first : Terminal) (before : List ℕ)
    → GoesOn piece.prompt told piece.kept first piece.old before
    → LeadsTo piece.is_over piece.prompt (told ++ piece.bytes) piece.kept_then first piece.new
    (before ++ piece.written)

-- ---- a failure

-- A line is not answered whole: nothing was written of it, or a beginning of what is written.
abbrev pub BreaksLine : List ℕ → List ℕ → Terminal → Option (List ℕ) → Option (List ℕ) → Type 0
BreaksLine prompt line old held now = (now ≡ held)
    ⊎ ((is_over : Bool) × (new : Terminal) × (said : List ℕ) × ServesLine line is_over old new said
    × AppendsFront held now (answer_text is_over prompt new (old.mon.text.items ++ said)))

-- Some bytes are not served whole: whatever was served before them, some of the lines that have
-- ended then were served, and so much is written of those in the bytes.
abbrev pub BreaksPiece : List ℕ → List ℕ → List ℕ → Terminal → List ℕ → Type 0
BreaksPiece prompt bytes kept old written = (told : List ℕ) (first : Terminal) (before : List ℕ)
    → GoesOn prompt told kept first old before
    → (last : Terminal) × ServesSome prompt (told ++ bytes) first last (before ++ written)

-- So much is written, of which a beginning was written.
abbrev pub BreaksBytes : List ℕ → List ℕ → List ℕ → Terminal → Option (List ℕ) → Option (List ℕ)
    → Type 0
BreaksBytes prompt bytes kept old held now = (more : List ℕ)
    × BreaksPiece prompt bytes kept old more
    × (old.mon.text.items ≡ [] → AppendsFront held now more)

-- What is left at the end of the input is not served whole: nothing was written of it, or a
-- beginning of what is written.
abbrev pub BreaksEnd : List ℕ → List ℕ → List ℕ → Terminal → Option (List ℕ) → Option (List ℕ) → Type 0
BreaksEnd prompt line_end kept old held now = (now ≡ held)
    ⊎ ((rest : List ℕ) × AppendsFront held now (old.mon.text.items ++ (line_end ++ rest))
    × ((told : List ℕ) (first : Terminal) (before : List ℕ)
    → GoesOn prompt told kept first old before → (is_over : Bool) × (new : Terminal)
    × EndsLines prompt line_end told is_over first new (before ++ (line_end ++ rest))))
