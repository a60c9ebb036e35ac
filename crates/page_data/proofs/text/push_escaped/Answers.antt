use Rattle.page_data.proofs.Safe.{escaped_safe}
use Rattle.page_data.proofs.text.push_escaped.Goals as goal
use Rattle.std.proofs.Common.{arith}

pub returns-clause-safe : goal.returns-clause-safe
returns-clause-safe c = escaped_safe c.args.bytes.now (λ k. omega (arith, c.type_inv.bytes k))
