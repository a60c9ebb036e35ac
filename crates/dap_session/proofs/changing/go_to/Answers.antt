use Rattle.std.proofs.Common.{◌≡◌, ◌∷◌, inr, map, subst, sym}
use Rattle.std.proofs.lemmas.Result.{IfOk-weaker}
use Rattle.dap_messages.specs.SeenAnswers.{nothing}
use Rattle.dap_messages.specs.Messages.{done, said_of}
use Rattle.dap_session.proofs.Done.{always, kept}
use Rattle.dap_session.proofs.Stays.{refused_by_more}
use Rattle.dap_session.specs.Changes.{HasGone}
use Rattle.dap_session.specs.Refusals.{IsNoTarget, Rejects}
use Rattle.dap_session.specs.Stands.{told_at}
use Rattle.model.specs.declared.event.Event.TheVariants.{Set}
use Rattle.model.specs.declared.event.Setting.TheVariants.{Pc}
use Rattle.mon_session.specs.declared.mon_state.MonState.{MonState}
use Rattle.dap_session.proofs.changing.go_to.Goals as goal

pub returns-in-Ok-clause-done : goal.returns-in-Ok-clause-done
returns-in-Ok-clause-done c = always c.or_memory.result _
    (λ ms. (
      c.in-Some.address,
      c.in-Some.is,
      subst (λ (d : MonState). HasGone c.in-Some.address c.args.client.now.mon d) (sym c.with_halt_at.ensures.kept.0)
          (c.in-Ok.ensures.course, c.in-Ok.ensures.stops),
    ))

pub returns-in-Ok-clause-told : goal.returns-in-Ok-clause-told
returns-in-Ok-clause-told c =
    let old = c.args.client.now in
    kept c.with_halt_at.result c.or_memory.result _ c.or_memory.ensures.made
    (IfOk-weaker c.with_halt_at.result _ _
    (λ ms told. (
      c.stand_by-halt.result,
      c.stand_by-halt.ensures.reason,
      c.stand_by-halt.ensures.words,
      c.stand_by-halt.ensures.fault,
      subst (λ (d : MonState). map said_of ms.items ≡ done nothing ∷ told_at old.listed d old.told.count c.stand_by-halt.result)
          (sym c.with_halt_at.ensures.kept.0) told.0,
    ))
    (c.with_halt_at.ensures.told _ c.all_done.ensures))

pub returns-in-Err-clause-why : goal.returns-in-Err-clause-why
returns-in-Err-clause-why c =
    let mon = c.args.client.now.mon in
    refused_by_more c.in-Err.fault (Rejects (Set (Pc c.in-Some.address)) mon) (IsNoTarget c.args.target mon)
    (λ rejects. inr (c.in-Some.address, c.in-Some.is, rejects)) c.in-Err.ensures.why
