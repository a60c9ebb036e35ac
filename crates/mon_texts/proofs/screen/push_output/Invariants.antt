use Rattle.std.proofs.Common.{◌≡◌, ◌++◌, drop}
use Rattle.std.specs.List.{flat_map}
use Rattle.mon_texts.specs.Screen.{output_text}
use Rattle.mon_texts.proofs.screen.push_output.Given as goal

abbrev pub invariant-loop-index : goal.invariant-loop-index
invariant-loop-index l = l.text.items ++ flat_map output_text (drop l.index l.session.current.bus.out) ≡ l.initial.text.items
    ++ flat_map output_text (drop l.from l.session.current.bus.out)
