use Rattle.std.proofs.Common.{◌≡◌, ◌<◌, ◌^◌, drop}
use Rattle.model.specs.Digits.{decimal_value, number_from}
use Rattle.debug_records.specs.Numbers.{not_large}
use Rattle.debug_records.proofs.numbers.decimal_number.Given as goal

abbrev pub invariant-loop-byte : goal.invariant-loop-byte
invariant-loop-byte l = record {
  small : l.number < 2 ^ 32;
  rest : not_large (number_from decimal_value 10 0 l.digits) ≡ not_large (number_from decimal_value 10 l.number (drop l.byte-index l.digits));
}
