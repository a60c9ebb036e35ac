use Rattle.std.proofs.Common.{◌≡◌, ◌++◌, drop, map}
use Rattle.call_frames.specs.Found.{addresses_named}
use Rattle.source_map.specs.Names.{named}
use Rattle.call_frames.proofs.found.addresses_named.Given as goal

abbrev pub invariant-loop-name : goal.invariant-loop-name
invariant-loop-name l = l.found.items ++ addresses_named l.text (map named (drop l.name-index l.names)) ≡ addresses_named l.text (map named l.names)
