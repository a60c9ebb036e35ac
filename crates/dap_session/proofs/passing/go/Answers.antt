use Rattle.std.proofs.Common.{◌≡◌, ◌∙◌, ℕ, ◌++◌, Option, ap, map, subst, sym}
use Rattle.std.proofs.lemmas.Result.{IfOk-weaker}
use Rattle.dap_desk.specs.Moves.{KeepsWatches, moved, moved_fault, moved_reason, moved_words, stand_of}
use Rattle.dap_messages.specs.Messages.{said_of}
use Rattle.dap_session.specs.Stands.{reason_at, told_at}
use Rattle.mon_session.specs.declared.mon_state.MonState.{MonState}
use Rattle.dap_session.proofs.passing.go.Goals as goal

pub returns : goal.returns
returns c = λ before is.
    let old = c.args.client.now in
    let move = c.in_ok-halt.ensures in
    let halt = c.in_ok-halt.halt in
    let kept = c.with_halt_at.ensures.kept in
    let reason = move.reason ∙ ap (λ (n : Option ℕ). moved_reason n c.args.way old.mon) c.steps_of.ensures in
    IfOk-weaker c.with_halt_at.result _ _
    (λ ms told. (
      ap stand_of kept.0 ∙ move.stand ∙ ap (λ (n : Option ℕ). moved n c.args.way old.mon) c.steps_of.ensures,
      subst (λ (d : MonState). KeepsWatches old.mon d) (sym kept.0) c.make_move.ensures.watches,
      kept.1,
      (
        halt,
        reason,
        move.words ∙ ap (λ (n : Option ℕ). moved_words n c.args.way old.mon) c.steps_of.ensures,
        move.fault ∙ ap (λ (n : Option ℕ). moved_fault n c.args.way old.mon) c.steps_of.ensures,
        subst (λ (d : MonState). map said_of ms.items ≡ before ++ told_at old.listed d old.told.count halt) (sym kept.0) told.0,
      ),
      told.2 ∙ (λ i. reason_at old.listed ((sym kept.0) i).session.current.regs.pc (reason i)),
    ))
    (c.with_halt_at.ensures.told before is)
