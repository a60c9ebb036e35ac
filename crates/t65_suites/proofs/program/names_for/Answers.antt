use Rattle.arguments.specs.Asked.{file_view}
use Rattle.t65_suites.proofs.Programs.{memory_file}
use Rattle.t65_suites.proofs.program.names_for.Goals as goal

pub returns-in-Err-clause-refused : goal.returns-in-Err-clause-refused
returns-in-Err-clause-refused g c = memory_file (file_view c.args.words.now) c.in-Err.fault c.in-Err.ensures.refused
