use Rattle.std.proofs.Common.{◌≡◌, ◌++◌, [], true, false, Some, None, append-nil, append_assoc, arith, refl, sym, ap, ◌∙◌}
use Rattle.std.proofs.KnownBytes.{Appends-nil, Appends-trans, Consumes-nil, Consumes-trans}
use Rattle.model.proofs.Written.{front_after}
use Rattle.console.proofs.Growing.{Begins}
use Rattle.console.specs.Playing.{is_at}
use Rattle.console.specs.Turns.{known, play_at}
use Rattle.console.specs.declared.ending.Ending.{Ending}
use Rattle.console.proofs.Turning.{ends_at, ends_full, ends_with, runs_none, runs_on, still_over}
use Rattle.word_trace.specs.Gathered.{gathered}
use Rattle.word_trace.specs.Texts.{Noted, no_text, note_step, noted_in}
use Rattle.word_trace.proofs.Gathering.{front_then, gathers_both, gathers_none}
use Rattle.word_trace.proofs.Cutting.{note_cut, run_cut}
use Rattle.word_trace.proofs.Going.{noting, once_both, once_none}
use Rattle.word_trace.proofs.Making.{ended_on, makes_at, makes_full, makes_none, makes_on, makes_with, turn_noted_on}
use Rattle.word_trace.proofs.trace.run_noting.Goals as goal

pub loop-steps-init : goal.loop-steps-init
loop-steps-init g c = (
  [],
  [],
  [],
  record {
    consumes = Consumes-nil _;
    once = once_none c.args.player.now.is_over;
    waits = c.requires.waits;
    over = c.requires.over;
    runs = runs_none c.args.to c.args.limit c.args.session.now (known c.args.player.now) c.args.player.now.is_over;
    makes = makes_none note_step c.args.to c.args.limit c.args.session.now (known c.args.player.now) c.args.player.now.is_over
        (no_text (gathered c.args.tracer.now));
    text = gathers_none _ _ _ _ refl refl;
    out = sym (append-nil c.args.session.now.current.bus.out);
    appends = Appends-nil _;
  },
)

pub returns-in-Ok-Some-clause-ok : goal.returns-in-Ok-Some-clause-ok
returns-in-Ok-Some-clause-ok g c =
    let inv = c.loop-steps.invariant in
    let l = c.loop-steps in
    let turn = rw c.in-Ok-Some.field-0-is at c.in-Ok-Some.ensures.ok in
    let u = c.noted_turn.new.session in
    let p = c.noted_turn.new.player in (
      inv.1 ++ turn.1,
      record {
        told = inv.0 ++ turn.0;
        consumes = Consumes-trans _ _ _ inv.0 turn.0 inv.3.consumes turn.2.consumes;
        once = once_both c.args.player.now.is_over l.player.is_over p.is_over inv.0 turn.0 inv.3.once turn.2.once;
        leads = λ rest may. (
          ends_with c.args.to c.args.limit c.args.session.now (known c.args.player.now) inv.0 l.player.is_over l.steps l.session (known l.player)
              inv.3.runs c.loop-steps-test.true
              turn.0 p.is_over (Some c.in-Ok-Some.ending) u (known p) turn.2.once turn.2.turn c.in-Ok-Some.ending refl rest may,
          makes_with note_step c.args.to c.args.limit c.args.session.now (known c.args.player.now) inv.0 l.player.is_over l.steps l.session
              (known l.player) (no_text (gathered c.args.tracer.now)) (noted_in l.tracer inv.1) inv.3.makes c.loop-steps-test.true
              turn.0 p.is_over (Some c.in-Ok-Some.ending) u (known p) turn.2.once turn.2.turn c.in-Ok-Some.ending refl rest may
              ∙ ended_on c.in-Ok-Some.ending l.session.current u.current l.tracer c.noted_turn.new.tracer inv.1 turn.1 turn.3,
        );
      },
      gathers_both _ (g.O.Write.contents l.output) _ _ l.tracer.sheet.text.items _ inv.1 turn.1 inv.3.text turn.4,
    )

pub returns-in-Ok-Some-clause-over : goal.returns-in-Ok-Some-clause-over
returns-in-Ok-Some-clause-over g c =
    let inv = c.loop-steps.invariant in
    let turn = rw c.in-Ok-Some.field-0-is at c.in-Ok-Some.ensures.ok in
    still_over c.loop-steps.player.is_over c.noted_turn.new.player.is_over _ _ turn.2.over inv.3.over

pub returns-then-is_at-clause-ok : goal.returns-then-is_at-clause-ok
returns-then-is_at-clause-ok g c =
    let inv = c.loop-steps.invariant in
    let l = c.loop-steps in
    let turn = rw c.in-Ok-None.field-0-is at c.in-Ok-None.ensures.ok in
    let u = c.noted_turn.new.session in
    let p = c.noted_turn.new.player in
    let step = turn.1 in
    let at' : is_at c.args.to u.current ≡ true = sym c.is_at.ensures ∙ c.if-is_at.true in (
      inv.1 ++ step,
      record {
        told = inv.0 ++ turn.0;
        consumes = Consumes-trans _ _ _ inv.0 turn.0 inv.3.consumes turn.2.consumes;
        once = once_both c.args.player.now.is_over l.player.is_over p.is_over inv.0 turn.0 inv.3.once turn.2.once;
        leads = λ rest may. (
          ends_at c.args.to c.args.limit c.args.session.now (known c.args.player.now) inv.0 l.player.is_over l.steps l.session (known l.player)
              inv.3.runs c.loop-steps-test.true
              turn.0 p.is_over None u (known p) turn.2.once turn.2.turn refl at' rest may,
          makes_at note_step c.args.to c.args.limit c.args.session.now (known c.args.player.now) inv.0 l.player.is_over l.steps l.session
              (known l.player) (no_text (gathered c.args.tracer.now)) (noted_in l.tracer inv.1) inv.3.makes c.loop-steps-test.true
              turn.0 p.is_over None u (known p) turn.2.once turn.2.turn (noted_in c.noted_turn.new.tracer (inv.1 ++ step))
              (turn_noted_on l.session.current u.current l.tracer c.noted_turn.new.tracer inv.1 step turn.3) refl at' rest may,
        );
      },
      gathers_both _ (g.O.Write.contents l.output) _ _ l.tracer.sheet.text.items _ inv.1 step inv.3.text turn.4,
    )

pub returns-then-is_at-clause-over : goal.returns-then-is_at-clause-over
returns-then-is_at-clause-over g c =
    let inv = c.loop-steps.invariant in
    let turn = rw c.in-Ok-None.field-0-is at c.in-Ok-None.ensures.ok in
    still_over c.loop-steps.player.is_over c.noted_turn.new.player.is_over _ _ turn.2.over inv.3.over

pub loop-steps-preserved : goal.loop-steps-preserved
loop-steps-preserved g c =
    let inv = c.loop-steps.invariant in
    let l = c.loop-steps in
    let turn = rw c.in-Ok-None.field-0-is at c.in-Ok-None.ensures.ok in
    let u = c.noted_turn.new.session in
    let p = c.noted_turn.new.player in
    let step = turn.1 in
    let more = c.in-Ok-None.ensures.output in
    let off : is_at c.args.to u.current ≡ false = sym c.is_at.ensures ∙ c.if-is_at.false in (
      inv.0 ++ turn.0,
      inv.1 ++ step,
      inv.2 ++ more.0,
      record {
        consumes = Consumes-trans _ _ _ inv.0 turn.0 inv.3.consumes turn.2.consumes;
        once = once_both c.args.player.now.is_over l.player.is_over p.is_over inv.0 turn.0 inv.3.once turn.2.once;
        waits = c.in-Ok-None.ensures.waits;
        over = still_over l.player.is_over p.is_over _ _ turn.2.over inv.3.over;
        runs = runs_on c.args.to c.args.limit c.args.session.now (known c.args.player.now) inv.0 l.player.is_over l.steps l.session (known l.player)
            inv.3.runs c.loop-steps-test.true
            turn.0 p.is_over None u (known p) turn.2.once turn.2.turn refl off;
        makes = makes_on note_step c.args.to c.args.limit c.args.session.now (known c.args.player.now) inv.0 l.player.is_over l.steps l.session
            (known l.player) (no_text (gathered c.args.tracer.now)) (noted_in l.tracer inv.1) inv.3.makes c.loop-steps-test.true
            turn.0 p.is_over None u (known p) turn.2.once turn.2.turn (noted_in c.noted_turn.new.tracer (inv.1 ++ step))
            (turn_noted_on l.session.current u.current l.tracer c.noted_turn.new.tracer inv.1 step turn.3) refl off;
        text = gathers_both _ (g.O.Write.contents l.output) _ _ l.tracer.sheet.text.items _ inv.1 step inv.3.text turn.4;
        out = more.1 ∙ ap (λ out. out ++ more.0) inv.3.out ∙ append_assoc _ inv.2 more.0;
        appends = Appends-trans _ _ _ inv.2 more.0 inv.3.appends more.2;
      },
    )

pub returns-clause-ok : goal.returns-clause-ok
returns-clause-ok g c =
    let inv = c.loop-steps.invariant in
    let l = c.loop-steps in (
      inv.1,
      record {
        told = inv.0;
        consumes = inv.3.consumes;
        once = inv.3.once;
        leads = λ rest may. (
          ends_full c.args.to c.args.limit c.args.session.now (known c.args.player.now) inv.0 l.player.is_over l.steps l.session (known l.player)
              inv.3.runs (omega (arith, c.loop-steps-test.false)) (omega (arith, c.loop-steps.auto.steps-end)) rest may
              ∙ ap (λ (e : Ending). record { steps = c.args.limit; ending = e; play = play_at l.session (known l.player) rest }) (sym c.ending_after.ensures),
          makes_full note_step c.args.to c.args.limit c.args.session.now (known c.args.player.now) inv.0 l.player.is_over l.steps l.session
              (known l.player) (no_text (gathered c.args.tracer.now)) (noted_in l.tracer inv.1) inv.3.makes (omega (arith, c.loop-steps-test.false)) rest may,
        );
      },
      inv.3.text,
    )

pub returns-clause-over : goal.returns-clause-over
returns-clause-over g c = c.loop-steps.invariant.3.over

-- a turn that failed
pub returns-in-Err-clause-err : goal.returns-in-Err-clause-err
returns-in-Err-clause-err g c =
    let inv = c.loop-steps.invariant in
    let l = c.loop-steps in
    let turn = c.in-Err.ensures.err in
    let u = c.noted_turn.new.session in
    let p = c.noted_turn.new.player in
    let text = inv.1 ++ turn.1 in (
      text,
      run_cut c.args.to c.args.limit (noting c.args.to c.args.limit (gathered c.args.tracer.now)) (λ (n : Noted). Begins text n.text)
          c.args.session.now c.args.player.now _ _ _ inv.0 l.steps l.session l.player u p turn.0
          inv.3.consumes inv.3.once inv.3.runs c.loop-steps-test.true turn.2
          (note_cut c.args.to c.args.limit c.args.session.now (known c.args.player.now) inv.0 l.steps l.session l.player u p turn.0 inv.1 turn.1
          (no_text (gathered c.args.tracer.now)) l.tracer
          inv.3.makes c.loop-steps-test.true turn.2.once turn.3),
      front_then _ (g.O.Write.contents l.output) _ _ l.tracer.sheet.text.items _ inv.1 turn.1 inv.3.text turn.4,
    )

pub returns-in-Err-clause-over : goal.returns-in-Err-clause-over
returns-in-Err-clause-over g c =
    let inv = c.loop-steps.invariant in
    let turn = c.in-Err.ensures.err in
    still_over c.loop-steps.player.is_over c.noted_turn.new.player.is_over _ _ turn.2.over inv.3.over

pub returns-in-Ok-Some-clause-output : goal.returns-in-Ok-Some-clause-output
returns-in-Ok-Some-clause-output g c =
    let inv = c.loop-steps.invariant in let more = c.in-Ok-Some.ensures.output in
    (inv.2 ++ more.0, more.1 ∙ ap (λ out. out ++ more.0) inv.3.out ∙ append_assoc _ inv.2 more.0, Appends-trans _ _ _ inv.2 more.0 inv.3.appends more.2)

pub returns-then-is_at-clause-output : goal.returns-then-is_at-clause-output
returns-then-is_at-clause-output g c =
    let inv = c.loop-steps.invariant in let more = c.in-Ok-None.ensures.output in
    (inv.2 ++ more.0, more.1 ∙ ap (λ out. out ++ more.0) inv.3.out ∙ append_assoc _ inv.2 more.0, Appends-trans _ _ _ inv.2 more.0 inv.3.appends more.2)

pub returns-in-Err-clause-output : goal.returns-in-Err-clause-output
returns-in-Err-clause-output g c =
    let inv = c.loop-steps.invariant in let more = c.in-Err.ensures.output in
    (inv.2 ++ more.0, more.1 ∙ ap (λ out. out ++ more.0) inv.3.out ∙ append_assoc _ inv.2 more.0, front_after _ _ _ inv.2 more.0 inv.3.appends more.2)

pub returns-clause-output : goal.returns-clause-output
returns-clause-output g c = let inv = c.loop-steps.invariant in (inv.2, inv.3.out, inv.3.appends)
