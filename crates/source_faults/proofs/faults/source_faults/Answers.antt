use Rattle.source_faults.proofs.FirstFault.{first_of, none_of}
use Rattle.source_faults.proofs.faults.source_faults.Goals as goal

pub returns-clause-first : goal.returns-clause-first
returns-clause-first c = first_of c.judging_is_right.ensures.fault c.args.map.now c.args.source.now c.all_faults.result c.all_faults.ensures

pub returns-clause-none : goal.returns-clause-none
returns-clause-none c = none_of c.judging_is_right.ensures.denoted c.args.map.now c.args.source.now c.all_faults.result c.all_faults.ensures
