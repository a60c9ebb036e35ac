use Rattle.dap_messages.specs.Seen.{breakpoint_locations}
use Rattle.dap_messages.proofs.reading.locations_query.Goals as goal

pub returns : goal.returns
returns c = λ i. breakpoint_locations (c.text_or-path.ensures i) (c.number_at-line.ensures i) (c.end_in-end.ensures i)
