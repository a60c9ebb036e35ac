use Rattle.std.proofs.Common.{arith, vec_len}
use Rattle.dap_session.proofs.LogRuns.{said_rest}
use Rattle.dap_session.proofs.passing.but_last.Goals as goal

pub returns : goal.returns
returns c = said_rest c.args.messages.items _ (vec_len c.args.messages) (omega (arith, c.args.messages.ok.0)) c.pop.ensures.rest
