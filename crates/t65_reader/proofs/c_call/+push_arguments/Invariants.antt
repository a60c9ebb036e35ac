use Rattle.std.proofs.Common.{length}
use Rattle.t65_reader.proofs.c_call.+push_arguments.Given as goal

abbrev pub decreases-push_arguments : goal.decreases-push_arguments
decreases-push_arguments l = length l.sizes.now
