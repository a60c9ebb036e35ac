use Rattle.std.proofs.Common.{◌≡◌, ◌++◌, drop}
use Rattle.std.specs.List.{flat_map}
use Rattle.mon_settings.specs.StopTexts.{break_notes}
use Rattle.mon_settings.proofs.breaks.push_notes.Given as goal

abbrev pub invariant-loop-address : goal.invariant-loop-address
invariant-loop-address l = l.text.items ++ flat_map (break_notes l.places) (drop l.address-index l.addresses)
    ≡ l.initial.text.items ++ flat_map (break_notes l.places) l.addresses
