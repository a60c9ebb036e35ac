-- The names of the documents that are open, by letters. Source: Language Server Protocol 3.17,
-- "Workspace Symbols Request".
use Rattle.std.specs.Prelude.{ℕ, List}
use Rattle.std.specs.List.{flat_map}
use Rattle.clean_source.specs.Cleaned.{cleaned}
use Rattle.json_messages.specs.Values.{list_of}
use Rattle.lsp_answers.specs.Search.{found_of}
use Rattle.lsp_answers.specs.Texts.{TextView, text_of}
use Rattle.model.specs.declared.instruction.Profile.{Profile}
use Rattle.serde_json.specs.Data.{Data}
use Rattle.word_lsp.specs.State.{Opened}

-- Those of a document with a name, by its text.
abbrev pub found_by : List ℕ → List ℕ → TextView → List Data
found_by uri query t = flat_map (found_of uri t query) t.uses

abbrev pub found_in : Profile → List ℕ → Opened → List Data
found_in profile query d = found_by d.0 query (text_of profile (cleaned d.1))

abbrev pub found_in_all : Profile → List ℕ → List Opened → Data
found_in_all profile query ds = list_of (flat_map (found_in profile query) ds)
