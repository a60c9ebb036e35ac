use Rattle.std.proofs.Common.{◌≡◌, length}
use Rattle.std.specs.Str.{bytes_eq, str_to_ascii_uppercase}
use Rattle.asm_line.proofs.Capitals.{same_from}
use Rattle.asm_line.proofs.token_tests.is_in_capitals.Given as goal

abbrev pub invariant-loop-i : goal.invariant-loop-i
invariant-loop-i l = record {
  same : same_from l.i l.text l.capitals ≡ bytes_eq (str_to_ascii_uppercase l.text) l.capitals;
  long : length l.text ≡ length l.capitals;
}
