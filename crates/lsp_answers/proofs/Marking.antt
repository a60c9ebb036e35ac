-- Diagnostics, one after another.
use Rattle.std.proofs.Common.{◌≡◌, ℕ, ◌+◌, ◌<◌, ◌≤◌, List, [], ◌∷◌, ◌++◌, length, take, get_or, Option, Result, Vec, IfOk, ap, subst, ◌∙◌}
use Rattle.std.proofs.lemmas.List.{take_more, take_all}
use Rattle.std.proofs.lemmas.Result.{IfOk-at_ok, IfOk-weaker}
use Rattle.std.specs.declared.alloc.AllocError.{AllocError}
use Rattle.std.specs.declared.alloc.Global.{Global}
use Rattle.fault_notes.specs.Blocks.{fault_blocks}
use Rattle.fault_notes.specs.Marks.{IsMeant, Known}
use Rattle.model.specs.declared.source_fault.AsmFault.{AsmFault}
use Rattle.source_notes.specs.Blocks.{BlockKind}
use Rattle.source_notes.specs.Lines.{line_of, line_or_none}
use Rattle.source_notes.specs.declared.note.Note.{Note}
use Rattle.lsp_answers.specs.Diagnostics.{AreMarked, IsMarked, IsPut, fault_kind}
use Rattle.lsp_answers.specs.declared.kinds.Diagnostic.{Diagnostic}
use Rattle.lsp_answers.specs.declared.kinds.DiagnosticKind.{DiagnosticKind}

module _ {T : Type 0} (block : BlockKind T) (kind_of : T → DiagnosticKind) (lines : List (List ℕ)) where
  more : (all : List T) (one : T) (ds : List Diagnostic) (d : Diagnostic) → AreMarked block kind_of lines all ds → IsMarked block kind_of lines one d
      → AreMarked block kind_of lines (all ++ one ∷ []) (ds ++ d ∷ [])
  more [] one [] d h is = (is, tt)
  more (first ∷ all) one (x ∷ ds) d h is = (h.0, more all one ds d h.1 is)
  more [] one (x ∷ ds) d h is = absurd h
  more (first ∷ all) one [] d h is = absurd h

  -- none yet
  pub none_yet : (all : List T) (ds : List Diagnostic) → ds ≡ [] → AreMarked block kind_of lines (take 0 all) ds
  none_yet all ds none = rw none tt

  -- a diagnostic after those so far
  one_more : (all : List T) (i : ℕ) (e : T) (ds new : List Diagnostic) (d : Diagnostic) (line : Option (List ℕ)) (shown : List ℕ)
      → i < length all → AreMarked block kind_of lines (take i all) ds
      → line ≡ line_of lines (block.number (get_or all i e)) → shown ≡ line_or_none line
      → d.line ≡ block.number (get_or all i e) → d.kind ≡ kind_of (get_or all i e) → block.Fits (get_or all i e) shown d.note
      → new ≡ ds ++ d ∷ [] → AreMarked block kind_of lines (take (i + 1) all) new
  one_more all i e ds new d line shown within so_far found same number kind fits put =
      let one = get_or all i e in
      let is : IsMarked block kind_of lines one d = record {
        line = number;
        kind = kind;
        fits = subst (λ (t : List ℕ). block.Fits one t d.note) (same ∙ ap line_or_none found) fits;
      } in
      rw (take_more all i e within, put) (more (take i all) one ds d so_far is)

  all_done : (all : List T) (i : ℕ) (ds : List Diagnostic) → length all ≤ i → AreMarked block kind_of lines (take i all) ds
      → AreMarked block kind_of lines all ds
  all_done all i ds past h = rw (take_all i all past) at h

  -- the same, where memory may have run out
  pub put_more : (all : List T) (i : ℕ) (e : T) (found new : Result (Vec Diagnostic Global) AllocError) (number : ℕ) (kind : DiagnosticKind)
      (note : Result Note AllocError) (line : Option (List ℕ)) (shown : List ℕ)
      → i < length all → IfOk found (λ ds. AreMarked block kind_of lines (take i all) ds.items)
      → line ≡ line_of lines (block.number (get_or all i e)) → shown ≡ line_or_none line
      → number ≡ block.number (get_or all i e) → kind ≡ kind_of (get_or all i e) → IfOk note (block.Fits (get_or all i e) shown)
      → IfOk new (λ ds. IsPut found number kind note ds.items) → IfOk new (λ ds. AreMarked block kind_of lines (take (i + 1) all) ds.items)
  put_more all i e found new number kind note line shown within so_far from same numbered kinded fits put =
      IfOk-weaker new _ _ (λ ds p. one_more all i e p.before.items ds.items (record { line = number; kind = kind; note = p.said }) line shown within
      (IfOk-at_ok (λ (v : Vec Diagnostic Global). AreMarked block kind_of lines (take i all) v.items) p.had so_far) from same numbered kinded
      (IfOk-at_ok (block.Fits (get_or all i e) shown) p.noted fits) p.all) put

  pub all_put : (all : List T) (i : ℕ) (found : Result (Vec Diagnostic Global) AllocError) → length all ≤ i
      → IfOk found (λ ds. AreMarked block kind_of lines (take i all) ds.items)
      → IfOk found (λ ds. AreMarked block kind_of lines all ds.items)
  all_put all i found past so_far = IfOk-weaker found _ _ (λ ds. all_done all i ds.items past) so_far

-- the same where the lines and what is known are the same
pub marked_as : (lines same : List (List ℕ)) (one other : Known) (faults : List AsmFault) (ds : List Diagnostic) → lines ≡ same → one ≡ other
    → AreMarked (fault_blocks (IsMeant one)) fault_kind lines faults ds → AreMarked (fault_blocks (IsMeant other)) fault_kind same faults ds
marked_as lines same one other faults ds l k marked =
    subst (λ (ls : List (List ℕ)). AreMarked (fault_blocks (IsMeant other)) fault_kind ls faults ds) l
    (subst (λ (kn : Known). AreMarked (fault_blocks (IsMeant kn)) fault_kind lines faults ds) k marked)
