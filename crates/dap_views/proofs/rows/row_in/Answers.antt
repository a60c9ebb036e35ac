use Rattle.std.proofs.Common.{ap}
use Rattle.std.specs.Prelude.{string_bytes}
use Rattle.dap_messages.proofs.Shown.{item_as}
use Rattle.dap_messages.specs.SeenAnswers.{instruction_at_line}
use Rattle.dap_views.proofs.rows.row_in.Goals as goal

pub returns-in-Some : goal.returns-in-Some
returns-in-Some c = λ b t is_b is_t.
    rw c.in-Some.is (item_as _ _ _ (λ i. instruction_at_line c.args.address b t (c.shown_line-line.ensures i) (c.as_str.ensures.value i))
    (c.instruction_at_line.ensures b t is_b is_t))

pub returns-in-None : goal.returns-in-None
returns-in-None c = λ b t is_b is_t. rw c.in-None.is (c.instruction_row.ensures b t is_b is_t)
