use Rattle.std.proofs.Common.{length}
use Rattle.t65_reader.proofs.c_call.+lay_out.Given as goal

abbrev pub decreases-lay_out : goal.decreases-lay_out
decreases-lay_out l = length l.arguments.now
