use Rattle.arguments.specs.Asked.{file_view}
use Rattle.arguments.specs.OtherFiles.{others_view}
use Rattle.loading.proofs.Joins.{memory_runs_out}
use Rattle.loading.proofs.machine.joined_without.Goals as goal

pub returns-in-Err-clause-refused : goal.returns-in-Err-clause-refused
returns-in-Err-clause-refused c =
    memory_runs_out (file_view c.args.words.now) (others_view c.args.others) c.in-Err.refusal c.of_words.result.fault
    c.in-Err.ensures.refused c.of_words.ensures
