use Rattle.std.proofs.Common.{◌≡◌, ◌≤◌, drop}
use Rattle.std.specs.Option.{option_map}
use Rattle.model.specs.Digits.{number_from}
use Rattle.mon_line_parts.specs.Reading.{at_most_32_bits, digit_in}
use Rattle.mon_line_parts.proofs.numbers.number_in.Given as goal

abbrev pub invariant-loop-byte : goal.invariant-loop-byte
invariant-loop-byte l = record {
  small : l.number ≤ 4294967295;
  rest : option_map at_most_32_bits (number_from (digit_in l.base) l.base 0 l.digits)
      ≡ option_map at_most_32_bits (number_from (digit_in l.base) l.base l.number (drop l.byte-index l.digits));
}
