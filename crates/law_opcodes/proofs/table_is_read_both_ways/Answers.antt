use Rattle.law_opcodes.proofs.Encoding.{encoded_exactly}
use Rattle.law_opcodes.proofs.table_is_read_both_ways.Goals as goal

pub returns : goal.returns
returns c = encoded_exactly
