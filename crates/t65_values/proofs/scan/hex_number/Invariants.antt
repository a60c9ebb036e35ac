use Rattle.std.proofs.Common.{◌≡◌, ◌<◌, ◌^◌, drop}
use Rattle.model.specs.Digits.{hex_value, number_from}
use Rattle.t65_values.proofs.scan.hex_number.Given as goal

abbrev pub invariant-loop-byte : goal.invariant-loop-byte
invariant-loop-byte l = record {
  small : l.value < 16 ^ l.byte-index;
  rest : number_from hex_value 16 0 l.word ≡ number_from hex_value 16 l.value (drop l.byte-index l.word);
}
