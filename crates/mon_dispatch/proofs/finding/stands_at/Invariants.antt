use Rattle.std.proofs.Common.{◌≡◌, drop}
use Rattle.mon_dispatch.specs.LookTexts.{stands_at}
use Rattle.mon_dispatch.proofs.finding.stands_at.Given as goal

abbrev pub invariant-loop-byte : goal.invariant-loop-byte
invariant-loop-byte l = stands_at l.session.current.bus.memory l.bytes l.address
    ≡ stands_at l.session.current.bus.memory (drop l.byte-index l.bytes) l.at
