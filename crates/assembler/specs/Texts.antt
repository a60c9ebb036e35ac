-- Where the text of each line stands in its source.
use Rattle.std.specs.Prelude.{◌≡◌, ℕ, Bool, List, drop, length, map, take}
use Rattle.model.specs.declared.instruction.Profile.{Profile}
use Rattle.model.specs.TextLines.{lines_of}
use Rattle.assembler.specs.Lines.{is_instruction_in, labels_in}
use Rattle.assembler.specs.declared.source_line.LineText.{LineText}

abbrev pub text_in : List ℕ → LineText → List ℕ
text_in source text = take text.len (drop text.start source)

abbrev pub texts_in : List ℕ → List LineText → List (List ℕ)
texts_in source texts = map (text_in source) texts

abbrev pub instructions_of : List LineText → List Bool
instructions_of texts = map (λ text. text.is_instruction) texts

-- These are the texts of the first lines of a source, of each whether it is an instruction, and of
-- each name that they define whether it is a label.
pub record AreTexts (profile : Profile) (source : List ℕ) (texts : List LineText)
    (labels : List Bool) : Type 0 where
  pub cut : texts_in source texts ≡ take (length texts) (lines_of source)
  pub instructions : instructions_of texts
      ≡ map (is_instruction_in profile) (take (length texts) (lines_of source))
  pub named : labels ≡ labels_in profile (take (length texts) (lines_of source))
