use Rattle.std.proofs.lemmas.Result.{IfOk-weaker}
use Rattle.std.specs.Prelude.{string_bytes}
use Rattle.word_dap.proofs.adapter.ended_by.Goals as goal

pub returns-then-is_end : goal.returns-then-is_end
returns-then-is_end c = rw c.if-is_end.true (IfOk-weaker c.with_terminated.result _ _ (λ ms said. (string_bytes c.args.words, said))
    (c.with_terminated.ensures _ c.refusal.ensures))

pub returns-else-is_end : goal.returns-else-is_end
returns-else-is_end c = rw c.if-is_end.false (IfOk-weaker c.refusal-else-is_end.result _ _ (λ ms said. (string_bytes c.args.words, said))
    c.refusal-else-is_end.ensures)
