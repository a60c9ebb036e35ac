use Rattle.std.proofs.Common.{◌≡◌, ◌<◌, ◌^◌, drop}
use Rattle.model.specs.Digits.{decimal_value, number_from}
use Rattle.arguments.proofs.value.decimal_number.Given as goal

abbrev pub invariant-loop-byte : goal.invariant-loop-byte
invariant-loop-byte l = record {
  small : l.value < 10 ^ l.byte-index;
  rest : number_from decimal_value 10 0 l.word ≡ number_from decimal_value 10 l.value (drop l.byte-index l.word);
}
