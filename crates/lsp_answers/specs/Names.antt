-- Where a name stands. Source: Language Server Protocol 3.17, "Goto Definition Request", "Find
-- References Request", "Document Highlights Request"; which uses a name has, mos65.
use Rattle.std.specs.Prelude.{ℕ, Bool, if◌then◌else◌, List, map, Option, Some, None}
use Rattle.lsp_answers.specs.Texts.{TextView, name_at, use_range}
use Rattle.json_messages.specs.Values.{list_of}
use Rattle.lsp_messages.specs.Values.{highlight_data, location_data}
use Rattle.name_uses.specs.Picked.{picked}
use Rattle.name_uses.specs.Uses.{Use}
use Rattle.name_uses.specs.declared.picks.Part.{Part}
use Rattle.name_uses.specs.declared.picks.Part.TheVariants.{All, Definitions, Others}
use Rattle.serde_json.specs.Data.{Data, null}

abbrev pub locations_of : List ℕ → TextView → List Use → Data
locations_of uri t uses = list_of (map (λ u. location_data uri (use_range t u)) uses)

-- The locations of those uses of a name that are meant; `null` without a name.
abbrev pub locations_by : List ℕ → TextView → Part → Option Use → Data
locations_by uri t part None = null
locations_by uri t part (Some u) = locations_of uri t (picked part u.text t.uses)

-- Where the name at a place is defined.
abbrev pub definition_at : List ℕ → TextView → ℕ → ℕ → Data
definition_at uri t line character = locations_by uri t Definitions (name_at t line character)

-- Where the name at a place stands, with or without where it is defined.
abbrev pub references_at : List ℕ → TextView → ℕ → ℕ → Bool → Data
references_at uri t line character declares
    = locations_by uri t (if declares then All else Others) (name_at t line character)

-- A definition is a write, which is the number 3, and any other use a read, which is 2.
abbrev pub highlight_of : TextView → Use → Data
highlight_of t u = highlight_data (if u.defines then 3 else 2) (use_range t u)

abbrev pub highlights_by : TextView → Option Use → Data
highlights_by t None = null
highlights_by t (Some u) = list_of (map (highlight_of t) (picked All u.text t.uses))

-- All uses of the name at a place; `null` without a name.
abbrev pub highlights_at : TextView → ℕ → ℕ → Data
highlights_at t line character = highlights_by t (name_at t line character)
