use Rattle.std.proofs.Common.{◌≡◌, ◌<◌, ◌^◌, drop}
use Rattle.model.specs.Digits.{hex_value, number_from}
use Rattle.debug_records.specs.Numbers.{not_large}
use Rattle.debug_records.proofs.numbers.hex_number.Given as goal

abbrev pub invariant-loop-byte : goal.invariant-loop-byte
invariant-loop-byte l = record {
  small : l.number < 2 ^ 32;
  rest : not_large (number_from hex_value 16 0 l.digits) ≡ not_large (number_from hex_value 16 l.number (drop l.byte-index l.digits));
}
