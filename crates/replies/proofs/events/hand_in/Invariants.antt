use Rattle.std.proofs.Common.{◌≡◌, ◌++◌, take, drop}
use Rattle.model.specs.Transcript.{after_input}
use Rattle.replies.proofs.events.hand_in.Given as goal

abbrev pub invariant-loop-byte : goal.invariant-loop-byte
invariant-loop-byte l = record {
  after : after_input l.fn.session l.bytes ≡ after_input l.session (drop l.byte-index l.bytes);
  given : l.session.current.bus.given ≡ l.fn.session.current.bus.given ++ take l.byte-index l.bytes;
}
