use Rattle.std.proofs.Common.{Some}
use Rattle.arguments.specs.Asked.{file_view}
use Rattle.loading.proofs.Starts.{named_idle, named_silent}
use Rattle.loading.proofs.named.load_named.Goals as goal

pub returns-clause-idle : goal.returns-clause-idle
returns-clause-idle g c =
    named_idle (file_view c.args.words.now) (Some c.in-Some.path.now) c.load_with_names.result c.load_with_names.ensures.started

pub returns-clause-silent : goal.returns-clause-silent
returns-clause-silent g c =
    named_silent (file_view c.args.words.now) (Some c.in-Some.path.now) c.load_with_names.result c.load_with_names.ensures.started
