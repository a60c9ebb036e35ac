use Rattle.std.proofs.Common.{◌≡◌, ◌∙◌, [], ◌++◌, Result, Ok, Err, ap, append-nil, subst, sym}
use Rattle.std.specs.Prelude.{OnOk}
use Rattle.arguments.specs.FaultLines.{load_text}
use Rattle.arguments.specs.declared.load_fault.LoadFault.{LoadFault}
use Rattle.arguments.proofs.load_fault.LoadFault.push.Goals as goal

on_ok_map : {X E : Type 0} (result : Result X E) (P Q : Type 0) → (P → Q) → OnOk result P → OnOk result Q
on_ok_map (Ok x) P Q f p = f p
on_ok_map (Err e) P Q f p = tt

-- The text is appended whole.
pub returns-in-Faults : goal.returns-in-Faults
unfolding load_text
returns-in-Faults c = on_ok_map c.push_told.result _ _
    (λ said. (
      c.in-Faults.text.items,
      [],
      ap (λ (f : LoadFault). load_text f c.args.file.now) c.in-Faults.is ∙ sym (append-nil c.in-Faults.text.items),
      said,
    )) (subst (λ t. OnOk c.push_told.result (c.push_told.new.told.items ≡ c.args.told.now.items ++ t)) c.deref.ensures.value c.push_told.ensures)
