use Rattle.std.proofs.Common.{ℕ}
use Rattle.line_steps.specs.Back.{is_line_back}
use Rattle.line_steps.proofs.Counted.{NoneTo}
use Rattle.line_steps.proofs.Returns.{IsHighest}
use Rattle.line_steps.proofs.Ways.{IsBack}
use Rattle.line_steps.proofs.back.back_by_line.Given as goal

abbrev pub invariant-loop-undone : goal.invariant-loop-undone
invariant-loop-undone l = record {
  back : IsBack l.fn.session l.session l.undone;
  highest : IsHighest l.fn.session l.undone l.highest;
  first : NoneTo (λ (k : ℕ). is_line_back l.lines l.fn.session k) l.undone;
}
