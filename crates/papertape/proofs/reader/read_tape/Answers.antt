use Rattle.papertape.proofs.Answers.{found_from, only_from, fault_from, refused_from}
use Rattle.papertape.proofs.reader.read_tape.Goals as goal

pub returns-clause-found : goal.returns-clause-found
returns-clause-found c = found_from c.args.text.now c.read_whole.result c.read_whole.ensures

pub returns-clause-only : goal.returns-clause-only
returns-clause-only c = only_from c.args.text.now c.read_whole.result c.read_whole.ensures

pub returns-clause-fault : goal.returns-clause-fault
returns-clause-fault c = fault_from c.args.text.now c.read_whole.result c.read_whole.ensures

pub returns-clause-refused : goal.returns-clause-refused
returns-clause-refused c = refused_from c.args.text.now c.read_whole.result c.read_whole.ensures
