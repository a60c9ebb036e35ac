use Rattle.std.proofs.Common.{◌≡◌, ◌++◌, drop}
use Rattle.std.specs.List.{flat_map}
use Rattle.mon_settings.specs.StopTexts.{break_text}
use Rattle.mon_settings.proofs.deleting.push_breaks.Given as goal

abbrev pub invariant-loop-stop : goal.invariant-loop-stop
invariant-loop-stop l = l.text.items ++ flat_map (break_text l.places.names) (drop l.stop-index l.breaks)
    ≡ l.initial.text.items ++ flat_map (break_text l.places.names) l.breaks
