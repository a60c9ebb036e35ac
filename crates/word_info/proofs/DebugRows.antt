-- The rows of debug information, by parts.
use Rattle.std.proofs.Common.{◌≡◌, ◌∙◌, ℕ, List, ◌++◌, Option, ap, subst}
use Rattle.debug_facts.specs.Hidden.{AreHidden}
use Rattle.debug_facts.specs.Rows.{known_text}
use Rattle.debug_facts.specs.declared.form.DebugForm.{DebugForm}
use Rattle.debug_files.specs.declared.changed.SourceState.{SourceState}
use Rattle.debug_records.specs.Info.{Info, Table}
use Rattle.debug_records.specs.Records.{Segment}
use Rattle.word_info.specs.Debugged.{AreDebugRows, hidden_rows}
use Rattle.word_info.specs.Facts.{ranges_of}
use Rattle.word_info.specs.declared.ranges.Range.{Range}

pub rows_by : (form : DebugForm) (info : Info) (states same : List SourceState) (said : List ℕ)
    → AreDebugRows form info same said → same ≡ states → AreDebugRows form info states said
rows_by form info states same said rows e = subst (λ (s : List SourceState). AreDebugRows form info s said) e rows

pub rows_told : (form : DebugForm) (info : Info) (states : List SourceState) (cells : List (Option ℕ)) (segments : Table Segment)
    (ranges : List Range) (front said : List ℕ) → AreHidden info cells → said ≡ front ++ hidden_rows segments ranges
    → front ≡ known_text form info states → segments ≡ info.segments → ranges ≡ ranges_of cells → AreDebugRows form info states said
rows_told form info states cells segments ranges front said hidden told known same found = (
  cells,
  hidden,
  told ∙ (ap (λ (f : List ℕ). f ++ hidden_rows segments ranges) known
      ∙ (ap (λ (s : Table Segment). known_text form info states ++ hidden_rows s ranges) same
      ∙ ap (λ (r : List Range). known_text form info states ++ hidden_rows info.segments r) found)),
)
