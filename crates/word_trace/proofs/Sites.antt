-- The labels and the lines of a program with debug information.
use Rattle.std.proofs.Common.{◌≡◌, ℕ, List, Option, map, subst}
use Rattle.assembler.specs.Assembly.{AssemblyView}
use Rattle.source_map.specs.Lines.{PlacesView}
use Rattle.trace_rows.specs.Sites.{AreLabels, IsTable, labelled, line_by_places}
use Rattle.trace_rows.specs.SourceLines.{lines_by, listed}
use Rattle.trace_rows.specs.declared.sites.Sites.{Sites}
use Rattle.word_trace.specs.Beginnings.{HasPlaces}

pub has_places : (asked assembly : Option AssemblyView) (places : PlacesView) (sites : Sites) → asked ≡ assembly
    → AreLabels asked (map labelled sites.labels.items) sites.label_of.items → map listed sites.lines.items ≡ lines_by places
    → IsTable sites.line_of.items (line_by_places places) → HasPlaces assembly places sites
has_places asked assembly places sites same labels lines table = record {
  labels = subst (λ (a : Option AssemblyView). AreLabels a (map labelled sites.labels.items) sites.label_of.items) same labels;
  lines = lines;
  line_of = table;
}
