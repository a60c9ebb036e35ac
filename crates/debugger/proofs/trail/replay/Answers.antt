use Rattle.std.proofs.Common.{◌≡◌, ◌<◌, ◌∙◌, sym, ap, arith, length, Some, None, Ok, Err, Result}
use Rattle.std.specs.Prelude.{slice_get, OnOk, IfErr}
use Rattle.std.specs.Option.{option_copied}
use Rattle.circular_buffer.proofs.Places.{slice_get-some}
use Rattle.model.specs.State.{State}
use Rattle.model.specs.Event.{event_of}
use Rattle.model.specs.declared.event.Event.{Event}
use Rattle.model.specs.declared.event.EventFault.{EventFault}
use Rattle.debugger.specs.Replay.{Follows}
use Rattle.debugger.proofs.Replays.{follow_at}
use Rattle.debugger.proofs.trail.replay.Goals as goal
use Rattle.debugger.proofs.trail.replay.Goals.{in-Some, in_default}

-- an event that is accepted leads where the definition says
went : (s t u : State) (e : Event) (r : Result Unit EventFault) → OnOk r (Follows s e t) → IfErr r (λ f. (event_of s e ≡ Err f) × (t ≡ s))
    → event_of s e ≡ Ok u → t ≡ u
went s t u e (Ok x) ok err is = let there = ok.accepted in cc
went s t u e (Err f) ok err is = let wrong = err.0 in cc

pub loop-index-preserved : goal.loop-index-preserved
loop-index-preserved c = λ base all start.
    let es = c.args.events.now.items in
    let i = c.loop-index.index in
    let here = c.loop-index.invariant base all start in
    elim c.match-get.branch [
      | in-Some w ↦
          let e = w.in-Some.event.now in
          let got : slice_get es i ≡ Some e = sym c.get.ensures ∙ ap option_copied w.in-Some.is in
          w.machine-is ∙ went c.loop-index.machine w.happen.new.machine _ e w.happen.result w.happen.ensures.ok w.happen.ensures.err
          (ap (λ (s : State). event_of s e) here ∙ follow_at i base es e got all)
      | in_default w ↦
          let inside : i < length es = omega (arith, c.loop-index-test.true, c.requires.within) in
          let got = slice_get-some es i inside in
          let none : slice_get es i ≡ None = sym c.get.ensures ∙ ap option_copied w.in_default.is in
          cc
    ]
