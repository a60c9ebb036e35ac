use Rattle.std.proofs.Common.{◌∙◌, ap}
use Rattle.json_messages.specs.Messages.{begins_field, is_length_name}
use Rattle.json_messages.proofs.front.begins_field.Goals as goal

pub returns : goal.returns
unfolding begins_field
returns c = c.is_length_name.ensures ∙ ap is_length_name c.front_part.ensures
