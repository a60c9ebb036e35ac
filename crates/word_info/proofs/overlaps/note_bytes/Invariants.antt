use Rattle.std.proofs.Common.{ℕ, ◌-◌}
use Rattle.word_info.specs.Overlaps.{AreNoted, with_bytes}
use Rattle.word_info.proofs.overlaps.note_bytes.Given as goal

abbrev pub invariant-loop-address : goal.invariant-loop-address
invariant-loop-address l = (n : ℕ → ℕ) → AreNoted l.initial.once l.initial.again n → AreNoted l.once l.again (with_bytes n l.first (l.address - l.first))
