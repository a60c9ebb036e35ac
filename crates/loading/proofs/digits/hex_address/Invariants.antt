use Rattle.std.proofs.Common.{◌≡◌, ◌≤◌, drop}
use Rattle.model.specs.Digits.{hex_value, number_from}
use Rattle.loading.proofs.digits.hex_address.Given as goal

abbrev pub invariant-loop-byte : goal.invariant-loop-byte
invariant-loop-byte l = record {
  small : l.value ≤ 65535;
  rest : number_from hex_value 16 0 l.word ≡ number_from hex_value 16 l.value (drop l.byte-index l.word);
}
