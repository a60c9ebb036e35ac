use Rattle.std.proofs.Common.{length}
use Rattle.clean_source.proofs.mark.+unmarked.Given as goal

abbrev pub decreases-unmarked : goal.decreases-unmarked
decreases-unmarked l = length l.text.now
