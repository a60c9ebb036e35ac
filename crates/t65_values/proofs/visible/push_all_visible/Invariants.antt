use Rattle.std.proofs.Common.{◌≡◌, ◌++◌, flat_map}
use Rattle.std.specs.Prelude.{string_bytes}
use Rattle.t65_values.specs.Visible.{visible_character}
use Rattle.t65_values.proofs.visible.push_all_visible.Given as goal

abbrev pub invariant-loop-character : goal.invariant-loop-character
invariant-loop-character l = string_bytes l.text ≡ string_bytes l.initial.text ++ flat_map visible_character l.yielded
