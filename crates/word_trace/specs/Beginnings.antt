-- What a trace begins with: the labels and the lines that are known, and the addresses that count as
-- written. Source: mos65.
use Rattle.std.specs.Prelude.{◌≡◌, Bool, true, false, List, [], map, Option, None, Some}
use Rattle.assembler.specs.Assembly.{AssemblyView}
use Rattle.source_map.specs.Lines.{PlacesView}
use Rattle.trace_rows.specs.Sites.{AreLabels, IsTable, label_for, labelled, line_by_places, line_for, names_in}
use Rattle.trace_rows.specs.SourceLines.{lines_by, lines_in, listed}
use Rattle.trace_rows.specs.declared.sites.Sites.{Sites}

-- A program without a source has no labels and no lines.
pub record HasNone (sites : Sites) : Type 0 where
  pub labels : sites.labels.items ≡ []
  pub lines : sites.lines.items ≡ []
  pub label_of : sites.label_of.items ≡ []
  pub line_of : sites.line_of.items ≡ []

-- The labels and the lines of a source, and which of them each address belongs to.
pub record HasThose (assembly : AssemblyView) (sites : Sites) : Type 0 where
  pub labels : map labelled sites.labels.items ≡ names_in assembly
  pub lines : map listed sites.lines.items ≡ lines_in assembly
  pub label_of : IsTable sites.label_of.items (label_for assembly)
  pub line_of : IsTable sites.line_of.items (line_for assembly)

-- The labels of an assembly, if there is one, and the lines that are shown by places.
pub record HasPlaces (assembly : Option AssemblyView) (places : PlacesView) (sites : Sites) : Type 0 where
  pub labels : AreLabels assembly (map labelled sites.labels.items) sites.label_of.items
  pub lines : map listed sites.lines.items ≡ lines_by places
  pub line_of : IsTable sites.line_of.items (line_by_places places)

-- By debug information, if there is some, and otherwise by a source.
abbrev pub AreSites : Option AssemblyView → Option PlacesView → Sites → Type 0
AreSites assembly (Some places) sites = HasPlaces assembly places sites
AreSites None None sites = HasNone sites
AreSites (Some assembly) None sites = HasThose assembly sites

-- The addresses at which a file has a byte, where reads of others are asked for.
abbrev pub first_written : Bool → List Bool → Option (List Bool)
first_written false written = None
first_written true written = Some written
