use Rattle.std.proofs.Common.{◌≡◌, ◌++◌, drop}
use Rattle.std.specs.Prelude.{string_bytes}
use Rattle.std.specs.List.{flat_map}
use Rattle.t65_failures.specs.Steps.{row_character}
use Rattle.t65_failures.proofs.steps.push_row_bytes.Given as goal

abbrev pub invariant-loop-byte : goal.invariant-loop-byte
invariant-loop-byte l = string_bytes l.text ++ flat_map row_character (drop l.byte-index l.row) ≡ string_bytes l.initial.text ++ flat_map row_character l.row
