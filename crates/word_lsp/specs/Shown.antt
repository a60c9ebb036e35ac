-- What an editor shows of a text. Source: Language Server Protocol 3.17.
use Rattle.std.specs.Prelude.{ℕ, List, [], Option, Some, None}
use Rattle.lsp_answers.specs.Completion.{completion_of}
use Rattle.lsp_answers.specs.Texts.{TextView, line_at, number_in}
use Rattle.lsp_hints.specs.Hints.{hints_of}
use Rattle.lsp_hints.specs.Operations.{spot_at}
use Rattle.lsp_hints.specs.Signatures.{signatures_of}
use Rattle.lsp_hints.specs.Folds.{folded}
use Rattle.lsp_hints.specs.Painted.{painted}
use Rattle.serde_json.specs.Data.{Data}

abbrev pub colours_in : TextView → Data
colours_in t = painted t.profile None t.lines

abbrev pub colours_between : TextView → ℕ × ℕ → Data
colours_between t lines = painted t.profile (Some lines) t.lines

abbrev pub folds_in : TextView → Data
folds_in t = folded t.profile t.lines

abbrev pub hints_in : TextView → ℕ × ℕ → Data
hints_in t lines = hints_of t.profile t.source t.lines lines

-- A line, empty where there is none: by its number from 1, and as the protocol counts it from 0.
abbrev pub line_by : TextView → Option ℕ → List ℕ
line_by t None = []
line_by t (Some number) = line_at t number

abbrev pub line_in : TextView → ℕ → List ℕ
line_in t line = line_by t (number_in t line)

abbrev pub signatures_in : TextView → ℕ → ℕ → Data
signatures_in t line character = signatures_of t.profile (line_in t line) character

abbrev pub completion_in : TextView → ℕ → ℕ → Data
completion_in t line character = completion_of t (spot_at (line_in t line) character)
