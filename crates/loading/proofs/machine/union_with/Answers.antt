use Rattle.std.proofs.Common.{refl}
use Rattle.loading.proofs.Joins.{joined_is, memory_ends}
use Rattle.loading.proofs.machine.union_with.Goals as goal

pub returns-in-Ok-clause-joined : goal.returns-in-Ok-clause-joined
returns-in-Ok-clause-joined c = joined_is c.args.word.now c.args.one.now c.args.other.now c.in-Ok.both c.requires.file c.requires.agrees c.in-Ok.ensures

pub returns-in-Err-clause-refused : goal.returns-in-Err-clause-refused
returns-in-Err-clause-refused c = memory_ends _ refl
