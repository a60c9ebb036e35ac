use Rattle.std.proofs.Common.{◌≡◌, ◌++◌, drop}
use Rattle.std.specs.List.{flat_map}
use Rattle.mon_settings.specs.StopTexts.{watch_text}
use Rattle.mon_settings.proofs.deleting.push_watches.Given as goal

abbrev pub invariant-loop-watch : goal.invariant-loop-watch
invariant-loop-watch l = l.text.items ++ flat_map (watch_text l.places.names) (drop l.watch-index l.watches)
    ≡ l.initial.text.items ++ flat_map (watch_text l.places.names) l.watches
