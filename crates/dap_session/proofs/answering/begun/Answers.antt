use Rattle.std.proofs.Common.{◌≡◌, ◌∙◌, ◌∷◌, ap, map, subst, sym}
use Rattle.std.proofs.lemmas.Result.{IfOk-weaker}
use Rattle.dap_desk.specs.Moves.{KeepsWatches, stand_of}
use Rattle.dap_messages.specs.SeenAnswers.{nothing}
use Rattle.dap_messages.specs.Messages.{done, said_of}
use Rattle.dap_messages.specs.declared.listed.Told.{Told}
use Rattle.dap_messages.specs.declared.listed.Listed.{Listed}
use Rattle.dap_session.specs.Stands.{reason_at, told_at}
use Rattle.mon_session.specs.declared.mon_state.MonState.{MonState}
use Rattle.dap_session.proofs.answering.begun.Goals as goal

pub returns : goal.returns
returns c =
    let old = c.args.client.now in
    let halt = c.in_ok-halt.halt in
    let first = c.in_ok-halt.ensures in
    let kept = c.with_halt_at.ensures.kept in
    IfOk-weaker c.with_halt_at.result _ _
    (λ ms told. (
      ap stand_of kept.0 ∙ first.stand,
      subst (λ (d : MonState). KeepsWatches old.mon d) (sym kept.0) c.first_halt.ensures.watches,
      (kept.1.0 ∙ c.first_halt.ensures.program.0, kept.1.1 ∙ c.first_halt.ensures.program.1, kept.1.2 ∙ c.first_halt.ensures.program.2),
      (
        halt,
        first.reason,
        first.words,
        first.fault,
        subst (λ (l : Listed). map said_of ms.items ≡ done nothing ∷ told_at l c.with_halt_at.new.client.mon old.told.count halt)
            c.first_halt.ensures.program.2
            (subst (λ (t : Told). map said_of ms.items ≡ done nothing
            ∷ told_at c.first_halt.new.client.listed c.with_halt_at.new.client.mon t.count halt) c.first_halt.ensures.told
            (subst (λ (d : MonState). map said_of ms.items ≡ done nothing
            ∷ told_at c.first_halt.new.client.listed d c.first_halt.new.client.told.count halt) (sym kept.0) told.0)),
      ),
      told.2 ∙ (λ i. reason_at (c.first_halt.ensures.program.2 i) ((sym kept.0) i).session.current.regs.pc (first.reason i)),
    ))
    (c.with_halt_at.ensures.told _ c.all_done.ensures)
