use Rattle.std.proofs.Common.{◌≡◌, ◌<◌, ◌/◌, ℕ}
use Rattle.std.specs.Prelude.{slice_index}
use Rattle.bus.specs.Pages.{AreSameBelow}
use Rattle.bus.proofs.pages.copy_pages.Given as goal

abbrev pub invariant-loop-page : goal.invariant-loop-page
invariant-loop-page l = record {
  below : AreSameBelow l.since l.stamps l.into l.from;
  done : (k : ℕ) → k / 256 < l.page → slice_index l.into k ≡ slice_index l.from k;
}
