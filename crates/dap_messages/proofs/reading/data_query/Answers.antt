use Rattle.dap_messages.specs.Seen.{data_breakpoint_info}
use Rattle.dap_messages.proofs.reading.data_query.Goals as goal

pub returns : goal.returns
returns c = λ i. data_breakpoint_info (c.scope_in-scope.ensures i) (c.text_or-name.ensures i)
    (c.number_at-count.ensures i) (c.flag_or-is_address.ensures i)
