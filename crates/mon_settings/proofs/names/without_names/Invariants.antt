use Rattle.std.proofs.Common.{◌≡◌, drop}
use Rattle.mon_settings.specs.Names.{text_from, without_names}
use Rattle.mon_settings.proofs.names.without_names.Given as goal

abbrev pub invariant-loop-byte : goal.invariant-loop-byte
invariant-loop-byte l = without_names l.places.names l.line ≡ text_from l.places.names l.text.items l.preceding l.word.items (drop l.byte-index l.line)
