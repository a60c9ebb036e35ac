use Rattle.std.proofs.Common.{◌≡◌, ℕ, ◌<◌, length, get_or}
use Rattle.source_forms.specs.Pieces.{is_flagged}
use Rattle.source_forms.specs.declared.mark.Mark.TheVariants.{Code}
use Rattle.source_forms.specs.Rows.{mark_at}
use Rattle.reached.specs.Reached.{followed_mark, is_followed}
use Rattle.reached.proofs.marking.followed_marks.Given as goal

abbrev pub invariant-loop-address : goal.invariant-loop-address
invariant-loop-address l = record {
  len : length l.followed.items ≡ l.address;
  each : (a : ℕ) → a < l.address → get_or l.followed.items a Code
      ≡ followed_mark (mark_at l.marks a) (is_followed l.profile l.cells l.marks l.flags.items a) (is_flagged l.letters.items a);
}
