use Rattle.std.proofs.Common.{◌∙◌, ap}
use Rattle.json_messages.specs.Messages.{number_in, skip}
use Rattle.json_messages.proofs.front.value_in.Goals as goal

pub returns-clause-value : goal.returns-clause-value
returns-clause-value c = c.number_in.ensures.value ∙ ap number_in (c.skip.ensures ∙ ap skip c.behind_name.ensures)
