use Rattle.std.proofs.Common.{◌≡◌, ℕ, ◌<◌, length, get_or}
use Rattle.source_forms.specs.declared.mark.Mark.TheVariants.{Code}
use Rattle.word_dis.specs.Marks.{said_mark}
use Rattle.word_dis.proofs.marks.said_marks.Given as goal

abbrev pub invariant-loop-address : goal.invariant-loop-address
invariant-loop-address l = record {
  len : length l.said.items ≡ l.address;
  each : (a : ℕ) → a < l.address → get_or l.said.items a Code ≡ said_mark l.instructions l.marks a;
}
