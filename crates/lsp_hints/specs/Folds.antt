-- What can be folded of a source. Source: Language Server Protocol 3.17, "Folding Range Request";
-- which lines, mos65.
use Rattle.std.specs.Prelude.{ℕ, ◌+◌, ◌-◌, ◌&&◌, nat_lt, Bool, false, if◌then◌else◌, List, [], ◌∷◌, ◌++◌, codes, map, Option, Some, None, unwrap_or}
use Rattle.lsp_hints.specs.Operations.{begins_with}
use Rattle.lsp_hints.specs.Painted.{is_mark}
use Rattle.lsp_hints.specs.declared.folds.Fold.{Fold}
use Rattle.lsp_hints.specs.declared.folds.FoldKind.{FoldKind}
use Rattle.lsp_hints.specs.declared.folds.FoldKind.TheVariants as kinds
use Rattle.json_messages.specs.Values.{count, list_of, object_of, word}
use Rattle.model.specs.Token.{Lexeme, tokens_of}
use Rattle.model.specs.declared.instruction.Profile.{Profile}
use Rattle.name_uses.specs.Uses.{is_name_token}
use Rattle.serde_json.specs.Data.{Data}
use Rattle.source_notes.specs.Lines.{without_blanks}

-- ---- lines

-- A label is a name with `:` behind it.
abbrev pub is_label : Profile → List Lexeme → Bool
is_label profile [] = false
is_label profile (t ∷ []) = false
is_label profile (t ∷ mark ∷ ts) = is_name_token profile t && is_mark 58 mark

abbrev pub is_label_by : Profile → Option (List Lexeme) → Bool
is_label_by profile None = false
is_label_by profile (Some ts) = is_label profile ts

-- A line begins with a label.
abbrev pub is_label_line : Profile → List ℕ → Bool
is_label_line profile line = is_label_by profile (tokens_of line)

-- A line has a comment alone.
abbrev pub is_comment : List ℕ → Bool
is_comment line = begins_with 59 (without_blanks line)

-- ---- folds, by the numbers of lines from 0

-- Two lines or more, from the first one to the one before an end.
abbrev pub folds_to : FoldKind → Option ℕ → ℕ → List Fold
folds_to kind None end = []
folds_to kind (Some first) end = if nat_lt 1 (end - first)
    then record { kind = kind; first = first; last = end - 1 } ∷ [] else []

-- From each label's line to the line before the next one, or to the end of the text; from the last
-- one before these lines too, if there was one.
unfoldable pub label_folds : Profile → ℕ → Option ℕ → List (List ℕ) → List Fold
label_folds profile number from [] = folds_to kinds.Label from number
label_folds profile number from (line ∷ lines) = if is_label_line profile line
    then folds_to kinds.Label from number ++ label_folds profile (number + 1) (Some number) lines
    else label_folds profile (number + 1) from lines

-- The runs of lines with a comment alone; such a run before these lines goes on.
unfoldable pub comment_folds : ℕ → Option ℕ → List (List ℕ) → List Fold
comment_folds number from [] = folds_to kinds.Comment from number
comment_folds number from (line ∷ lines) = if is_comment line
    then comment_folds (number + 1) (Some (unwrap_or from number)) lines
    else folds_to kinds.Comment from number ++ comment_folds (number + 1) None lines

-- The folds of labels, and behind them those of comments.
abbrev pub all_folds : Profile → List (List ℕ) → List Fold
all_folds profile lines = label_folds profile 0 None lines ++ comment_folds 0 None lines

-- ---- values

abbrev pub label_data : Fold → Data
label_data f = object_of ((codes "endLine", count f.last) ∷ (codes "startLine", count f.first) ∷ [])

abbrev pub comment_data : Fold → Data
comment_data f = object_of ((codes "endLine", count f.last)
    ∷ (codes "kind", word (codes "comment")) ∷ (codes "startLine", count f.first) ∷ [])

abbrev pub data_by : FoldKind → Fold → Data
data_by kinds.Label f = label_data f
data_by kinds.Comment f = comment_data f

abbrev pub fold_data : Fold → Data
fold_data f = data_by f.kind f

-- What can be folded of the lines of a source.
abbrev pub folded : Profile → List (List ℕ) → Data
folded profile lines = list_of (map fold_data (all_folds profile lines))
