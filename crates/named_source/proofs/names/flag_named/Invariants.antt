use Rattle.named_source.proofs.Flags.{Flags}
use Rattle.named_source.proofs.names.flag_named.Given as goal

abbrev pub invariant-loop-address : goal.invariant-loop-address
invariant-loop-address l = Flags l.table l.flags.items l.fn.flags.items l.address
