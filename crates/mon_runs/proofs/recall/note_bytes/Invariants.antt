use Rattle.std.proofs.Common.{◌≡◌, ◌<◌, ℕ, length, get_or}
use Rattle.mon_runs.proofs.recall.note_bytes.Given as goal

abbrev pub invariant-loop-index : goal.invariant-loop-index
invariant-loop-index l = record {
  size : length l.bytes ≡ 256;
  noted : (k : ℕ) → k < l.index → get_or l.bytes k 0 ≡ get_or l.session.current.bus.memory (get_or l.watched k 0) 0;
}
