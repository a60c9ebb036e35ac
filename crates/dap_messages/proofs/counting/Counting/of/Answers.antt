use Rattle.dap_messages.proofs.counting.Counting.of.Goals as goal

pub returns : goal.returns
returns c = λ i. record { lines_start_at_1 = c.flag_or.ensures i; columns_start_at_1 = c.flag_or-2.ensures i; can_invalidate = c.flag_or-3.ensures i }
