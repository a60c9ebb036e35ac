-- A name changed. Source: Language Server Protocol 3.17, "Rename Request", "Prepare Rename Request";
-- which name may be given, mos65.
use Rattle.std.specs.Prelude.{◌≡◌, ◌<◌, ◌⊎◌, ⊤, ℕ, true, List, [], length, map, Option, Some, None}
use Rattle.std.specs.Str.Lossy.{utf8_lossy}
use Rattle.lsp_answers.specs.Texts.{TextView, use_range}
use Rattle.json_messages.specs.Values.{list_of}
use Rattle.lsp_messages.specs.Values.{changes_data, edit_data, ready_data}
use Rattle.model.specs.Source.{Denotes}
use Rattle.model.specs.State.{Map}
use Rattle.name_uses.specs.Faulty.{faulty_line}
use Rattle.name_uses.specs.Uses.{Use, is_name}
use Rattle.serde_json.specs.Data.{Data}
use Rattle.name_uses.specs.Renaming.{IsRefused, renamed, uses_named}
use Rattle.name_uses.specs.declared.fault.RenameFault.{RenameFault}
use Rattle.name_uses.specs.declared.fault.RenameFault.TheVariants.{NoName, Taken, Faulty, Changed, OutOfMemory}

-- The changes that put a word in place of some uses.
abbrev pub edits_of : TextView → List ℕ → List Use → Data
edits_of t word uses = list_of (map (λ u. edit_data word (use_range t u)) uses)

-- A name gets another one: each place where it stands is changed and no other, neither name stands
-- in a line whose text has a fault, and what the source denotes, the source with these changes
-- denotes too.
pub record IsRename (bus_map : Map) (uri : List ℕ) (t : TextView) (old new : List ℕ) (v : Data)
    : Type 0 where
  pub edits : v ≡ changes_data uri (edits_of t new (uses_named bus_map.profile t.source old))
  pub named : is_name bus_map.profile new ≡ true
  pub free : uses_named bus_map.profile t.source new ≡ []
  pub sound : faulty_line bus_map.profile t.source old new ≡ None
  pub image : (image : List (Option ℕ)) → Denotes bus_map t.source image
      → Denotes bus_map (renamed bus_map.profile t.source old new) image

-- A refusal that is told to a client.
abbrev pub IsTold : RenameFault → Type 0
IsTold NoName = ⊤
IsTold Taken = ⊤
IsTold (Faulty line) = ⊤
IsTold Changed = ⊤
IsTold OutOfMemory = ⊥

-- A name is kept: the source is too long, or the change is refused.
abbrev pub IsKept : Map → TextView → List ℕ → List ℕ → Type 0
IsKept bus_map t old new = (1048576 < length t.source)
    ⊎ ((fault : RenameFault) × IsTold fault × IsRefused bus_map t.source old new fault)

-- The name at a place, if one stands there.
abbrev pub IsRenameAt : Map → List ℕ → TextView → Option Use → List ℕ → Data → Type 0
IsRenameAt bus_map uri t None new v = ⊥
IsRenameAt bus_map uri t (Some u) new v = IsRename bus_map uri t u.text new v

abbrev pub IsKeptAt : Map → TextView → Option Use → List ℕ → Type 0
IsKeptAt bus_map t None new = ⊤
IsKeptAt bus_map t (Some u) new = IsKept bus_map t u.text new

-- ---- whether a name may get another one

abbrev pub ready_of : TextView → Use → Data
ready_of t u = ready_data (utf8_lossy u.text) (use_range t u)

-- It may: it stands in no line whose text has a fault.
pub record IsReady (bus_map : Map) (t : TextView) (u : Use) (v : Data) : Type 0 where
  pub told : v ≡ ready_of t u
  pub sound : faulty_line bus_map.profile t.source u.text u.text ≡ None

abbrev pub IsReadyAt : Map → TextView → Option Use → Data → Type 0
IsReadyAt bus_map t None v = ⊥
IsReadyAt bus_map t (Some u) v = IsReady bus_map t u v
