use Rattle.std.proofs.Common.{◌≡◌, flat_map}
use Rattle.std.specs.Prelude.{string_bytes}
use Rattle.arguments.specs.Shown.{shown_char}
use Rattle.arguments.proofs.shown.shown_name.Given as goal

abbrev pub invariant-loop-character : goal.invariant-loop-character
invariant-loop-character l = string_bytes l.text ≡ flat_map shown_char l.yielded
