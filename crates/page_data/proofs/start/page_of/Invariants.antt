use Rattle.std.proofs.Common.{◌≡◌, ◌+◌, ◌*◌, ◌<◌, ℕ, get_or, length}
use Rattle.page_data.proofs.start.page_of.Given as goal

abbrev pub invariant-loop-index : goal.invariant-loop-index
invariant-loop-index l = record {
  size : length l.cells ≡ 256;
  same : (k : ℕ) → k < l.index → get_or l.cells k 0 ≡ get_or l.session.current.bus.memory (256 * l.number + k) 0;
}
