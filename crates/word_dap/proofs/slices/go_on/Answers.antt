use Rattle.std.proofs.Common.{◌∙◌, List, arith, subst, vec_len}
use Rattle.serde_json.specs.View.{view}
use Rattle.word_dap.proofs.Runs.{said_rest}
use Rattle.word_dap.proofs.Sent.{begun_whole}
use Rattle.word_dap.specs.Sent.{AreBegun}
use Rattle.dap_messages.specs.Messages.{Said}
use Rattle.word_dap.proofs.slices.go_on.Goals as goal

pub returns-in-Err-run_again-clause-begun : goal.returns-in-Err-run_again-clause-begun
returns-in-Err-run_again-clause-begun g c =
    let sent = c.in-Ok.ensures.sent in
    let old = c.args.messages.now in
    let said = said_rest old.items c.deref.result.now (vec_len old) (omega (arith, old.ok.0)) (c.deref.ensures.value ∙ c.pop.ensures.rest) in
    (sent.0, subst (λ (l : List Said). AreBegun c.args.sent (view c.args.request.now) l sent.0) said (begun_whole _ _ _ _ _ sent.1), sent.2)

pub returns-in-Err-clause-begun : goal.returns-in-Err-clause-begun
returns-in-Err-clause-begun g c =
    let begun = c.in-Err.ensures.begun in
    let old = c.args.messages.now in
    let said = said_rest old.items c.deref.result.now (vec_len old) (omega (arith, old.ok.0)) (c.deref.ensures.value ∙ c.pop.ensures.rest) in
    (begun.0, subst (λ (l : List Said). AreBegun c.args.sent (view c.args.request.now) l begun.0) said begun.1, begun.2)
