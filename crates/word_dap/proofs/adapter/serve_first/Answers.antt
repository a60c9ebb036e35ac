use Rattle.std.proofs.Common.{refl}
use Rattle.std.proofs.lemmas.Result.{IfOk-weaker}
use Rattle.dap_session.proofs.Done.{kept}
use Rattle.word_dap.proofs.adapter.serve_first.Goals as goal

pub returns-in-Initialize-clause-done : goal.returns-in-Initialize-clause-done
returns-in-Initialize-clause-done c = rw c.in-Initialize.is (kept c.answered.result c.or_memory.result _ c.or_memory.ensures.made
    (IfOk-weaker c.answered.result _ _ (λ ms said. (refl, said)) (c.answered.ensures _ refl)))
