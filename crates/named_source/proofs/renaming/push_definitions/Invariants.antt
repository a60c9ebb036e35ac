use Rattle.std.proofs.Common.{◌≡◌, ◌++◌, ◌-◌}
use Rattle.named_source.specs.Renaming.{definitions, definitions_from}
use Rattle.named_source.proofs.renaming.push_definitions.Given as goal

abbrev pub invariant-loop-address : goal.invariant-loop-address
invariant-loop-address l = l.out.items ++ definitions_from l.naming.names.now.names l.naming.image.now (65536 - l.address) l.address
    ≡ l.fn.out.items ++ definitions l.naming.names.now.names l.naming.image.now
