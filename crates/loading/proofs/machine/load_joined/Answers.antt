use Rattle.arguments.specs.Asked.{file_view}
use Rattle.arguments.specs.OtherFiles.{others_view}
use Rattle.loading.proofs.Joins.{memory_runs_out}
use Rattle.loading.proofs.machine.load_joined.Goals as goal

pub returns-clause-refused : goal.returns-clause-refused
returns-clause-refused g c =
    memory_runs_out (file_view c.args.words.now) (others_view c.args.others) c.in-Err-start_image.refusal c.of_words-in-Err-start_image.result.fault
    c.in-Err-start_image.ensures.refused c.of_words-in-Err-start_image.ensures
