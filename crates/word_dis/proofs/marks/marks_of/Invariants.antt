use Rattle.std.proofs.Common.{◌≡◌, ℕ, ◌<◌, vec_len, get_or}
use Rattle.source_forms.specs.declared.mark.Mark.TheVariants.{Code}
use Rattle.word_dis.specs.Marks.{mark_of}
use Rattle.marks_files.specs.Views.{marks_view}
use Rattle.word_dis.proofs.marks.marks_of.Given as goal

abbrev pub invariant-loop-address : goal.invariant-loop-address
invariant-loop-address l = record {
  len : vec_len l.marks ≡ l.address;
  each : (a : ℕ) → a < l.address → get_or l.marks.items a Code ≡ mark_of l.labels (marks_view l.said) a;
}
