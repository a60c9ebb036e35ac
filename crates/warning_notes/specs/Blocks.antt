-- What is written of the warnings of a source: a block for each. Source: mos65.
use Rattle.std.specs.Prelude.{◌≡◌, ℕ, List, [], ◌∷◌, ◌++◌, length, take, codes}
use Rattle.model.specs.TextLines.{lines_of}
use Rattle.source_notes.specs.Blocks.{AreBlocks, BlockKind, total_of}
use Rattle.source_notes.specs.Lines.{names_of}
use Rattle.warning_notes.specs.Notes.{IsNote}
use Rattle.warning_notes.specs.declared.wording.TheConstants.{AFTER_END, FALLS_OFF, HANDLER_RETURNS, LETTER_CASE, LONG_FORM, NO_BYTES, NO_VECTOR, ONE_WARNING, PLAIN_NUMBER, POINTER_WRAP, REGISTER_NAME, SQUARE_BRACKETS, UNUSED_NAME, VECTOR_TO_DATA, WARNING, WARNINGS}
use Rattle.warnings.specs.declared.kinds.Warning.{Warning}
use Rattle.warnings.specs.declared.kinds.WarningKind.{WarningKind}
use Rattle.warnings.specs.declared.kinds.WarningKind.TheVariants.{PlainNumber, UnusedName, LongForm, LetterCase, NoBytes, AfterEnd, NoVector, FallsOff, PointerWrap, RegisterName, SquareBrackets, VectorToData, HandlerReturns}

abbrev pub kind_name : WarningKind → List ℕ
kind_name PlainNumber = PLAIN_NUMBER.now
kind_name UnusedName = UNUSED_NAME.now
kind_name LongForm = LONG_FORM.now
kind_name LetterCase = LETTER_CASE.now
kind_name NoBytes = NO_BYTES.now
kind_name AfterEnd = AFTER_END.now
kind_name NoVector = NO_VECTOR.now
kind_name FallsOff = FALLS_OFF.now
kind_name (PointerWrap page) = POINTER_WRAP.now
kind_name RegisterName = REGISTER_NAME.now
kind_name SquareBrackets = SQUARE_BRACKETS.now
kind_name (VectorToData vector line) = VECTOR_TO_DATA.now
kind_name (HandlerReturns vector) = HANDLER_RETURNS.now

-- The title of a block, `warning: KIND: `.
abbrev pub title_of : WarningKind → List ℕ
title_of kind = WARNING.now ++ (kind_name kind ++ codes ": ")

-- The blocks of warnings, among names with their lines' numbers.
abbrev pub warning_blocks : List (List ℕ × ℕ) → BlockKind Warning
warning_blocks names = record {
  number = λ warning. warning.line;
  title = λ warning. title_of warning.kind;
  Fits = λ warning line note. IsNote names warning.kind warning.line line note;
}

-- What is written of warnings of a source: a block for each of the first 50, with the source's own
-- line, and how many there are.
pub record IsWarned (file source : List ℕ) (warnings : List Warning) (text : List ℕ)
    : Type 0 where
  pub blocks : List ℕ
  pub each : AreBlocks (warning_blocks (names_of (lines_of source))) file (lines_of source)
      (take 50 warnings) blocks
  pub written : text ≡ blocks ++ total_of ONE_WARNING.now WARNINGS.now (length warnings)

-- Nothing is written without a warning.
abbrev pub IsWarnedText : List ℕ → List ℕ → List Warning → List ℕ → Type 0
IsWarnedText file source [] text = text ≡ []
IsWarnedText file source (warning ∷ warnings) text = IsWarned file source (warning ∷ warnings) text
