use Rattle.std.proofs.Common.{◌≡◌, ◌++◌, inl, inr, sym, ap, ◌∙◌}
use Rattle.model.specs.declared.source_fault.AsmFault.{AsmFault}
use Rattle.model.specs.OneLineAssembly.{one_line}
use Rattle.mon_session.specs.Course.{course_of}
use Rattle.mon_settings.specs.ByteLines.{assembled, if_assembled}
use Rattle.std.proofs.lemmas.Result.{IfOk-weaker}
use Rattle.mon_settings.specs.ChangeTexts.{assembled_text, if_assembled_text, not_assembled_text}
use Rattle.mon_settings.proofs.Made.{if_ok, not_assembled, not_assembled_said, only_err}
use Rattle.mon_settings.proofs.asm.assemble_text.Goals as goal

pub returns-in-Err-clause-course : goal.returns-in-Err-clause-course
returns-in-Err-clause-course c =
    let before = course_of c.args.mon.now in
    let a = c.args.address in
    let text = c.args.text.now in
    let after = course_of c.refuse_line.new.mon in
    let P : Type 0 = after ≡ assembled a text before in
    elim c.in-Err.ensures.exact [
      | inl same ↦ only_err P c.refuse_line.result (c.refuse_line.ensures.memory (ap (λ (f : AsmFault). f.kind) same))
      | inr given ↦ if_ok P c.refuse_line.result ((λ i. (c.refuse_line.ensures.shows.0 i, c.refuse_line.ensures.shows.1 i))
          ∙ sym (not_assembled a before (one_line c.profile.result a text) c.in-Err.fault given)
          ∙ ap (λ p. if_assembled a before (one_line p a text)) c.profile.ensures)
    ]

pub returns-in-Err-clause-text : goal.returns-in-Err-clause-text
returns-in-Err-clause-text c =
    let before = course_of c.args.mon.now in
    let places = c.args.mon.now.places in
    let a = c.args.address in
    let text = c.args.text.now in
    let old = c.args.mon.now.text.items in
    let new = c.refuse_line.new.mon.text.items in
    let P : Type 0 = new ≡ old ++ assembled_text places a text before in
    elim c.in-Err.ensures.exact [
      | inl same ↦ only_err P c.refuse_line.result (c.refuse_line.ensures.memory (ap (λ (f : AsmFault). f.kind) same))
      | inr given ↦ IfOk-weaker c.refuse_line.result (λ _. new ≡ old ++ not_assembled_text c.in-Err.fault.kind) (λ _. P) (λ _ said. said
          ∙ ap (λ l. old ++ l) (sym (not_assembled_said places a before (one_line c.profile.result a text) c.in-Err.fault given)
          ∙ ap (λ p. if_assembled_text places a before (one_line p a text)) c.profile.ensures)) c.refuse_line.ensures.text
    ]
