use Rattle.std.proofs.Common.{◌≡◌, drop, map}
use Rattle.mon_settings.specs.StopTexts.{is_again}
use Rattle.source_map.specs.Names.{first_text, named}
use Rattle.mon_settings.proofs.again.first_again.Given as goal

abbrev pub invariant-loop-name : goal.invariant-loop-name
invariant-loop-name l = record {
  rest : first_text (is_again l.text) (map named l.names) ≡ first_text (is_again l.text) (map named (drop l.name-index l.names));
}
