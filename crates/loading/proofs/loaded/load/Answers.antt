use Rattle.arguments.specs.Asked.{file_view}
use Rattle.loading.proofs.Starts.{started_idle, started_silent}
use Rattle.loading.proofs.loaded.load.Goals as goal

pub returns-clause-idle : goal.returns-clause-idle
returns-clause-idle g c = started_idle (file_view c.args.words.now) c.load_with_history.result c.load_with_history.ensures.started

pub returns-clause-silent : goal.returns-clause-silent
returns-clause-silent g c = started_silent (file_view c.args.words.now) c.load_with_history.result c.load_with_history.ensures.started
