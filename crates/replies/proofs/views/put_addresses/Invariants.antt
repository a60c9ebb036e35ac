use Rattle.std.specs.Io.KnownBytes.{Appends}
use Rattle.replies.proofs.Lists.{addresses_to}
use Rattle.replies.proofs.views.put_addresses.Given as goal

abbrev pub invariant-loop-index : goal.invariant-loop-index
invariant-loop-index g l = Appends (g.W.Write.contents l.fn.writer) (g.W.Write.contents l.writer) (addresses_to l.session.breaks l.index)
