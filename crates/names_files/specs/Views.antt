-- Lines and names without where they lie in memory.
use Rattle.names_files.specs.Labels.{Label}
use Rattle.names_files.specs.Meanings.{Meaning, other, stands, named, kept, left_out, unknown}
use Rattle.names_files.specs.NamesFile.{Names, Taken}
use Rattle.names_files.specs.declared.label.Label.{Label as Held}
use Rattle.names_files.specs.declared.meaning.Meaning.{Meaning as Found}
use Rattle.names_files.specs.declared.meaning.Meaning.TheVariants as found
use Rattle.names_files.specs.declared.names.Lines.{Lines}
use Rattle.names_files.specs.declared.names.NamesFile.{NamesFile}

abbrev pub label_view : Held → Label
label_view label = record { digits = label.digits.now; name = label.name.now }

abbrev pub meaning_view : Found → Meaning
meaning_view found.Other = other
meaning_view found.Stands = stands
meaning_view (found.Named name number) = named name.now number
meaning_view (found.Kept name number) = kept name.now number
meaning_view (found.LeftOut name) = left_out name.now
meaning_view found.Unknown = unknown

abbrev pub taken_view : Lines → Taken
taken_view lines = record {
  source = lines.source.items;
  names = lines.names;
  others = lines.others;
  left_out = lines.left_out;
  shown = lines.shown.items;
  told = lines.told;
  is_known = lines.is_known;
  is_source = lines.is_source;
}

abbrev pub names_view : NamesFile → Names
names_view names = record {
  source = names.source.items;
  others = names.others;
  left_out = names.left_out.items;
  lost = names.lost;
  is_unknown = names.is_unknown;
}
