use Rattle.std.proofs.Common.{arith}
use Rattle.page_writer.proofs.run.has_bytes.Goals as goal

pub returns : goal.returns
returns c = λ k. omega (arith, c.type_inv.bytes k)
