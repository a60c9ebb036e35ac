use Rattle.std.proofs.Common.{◌≡◌, ◌++◌, [], true, false, Some, None, append-nil, append_assoc, arith, refl, sym, ap, ◌∙◌}
use Rattle.std.specs.Prelude.{⊤}
use Rattle.std.proofs.KnownBytes.{Appends-nil, Appends-trans, Consumes-nil, Consumes-trans}
use Rattle.model.proofs.Written.{front_after}
use Rattle.console.specs.Playing.{Play, is_at}
use Rattle.console.specs.Turns.{known, play_at}
use Rattle.console.specs.declared.ending.Ending.{Ending}
use Rattle.console.proofs.Turning.{ends_at, ends_full, ends_with, runs_none, runs_on, still_over}
use Rattle.word_trace.specs.Gathered.{gathered}
use Rattle.word_trace.specs.Texts.{pass_step}
use Rattle.word_trace.proofs.Cutting.{run_cut}
use Rattle.word_trace.proofs.Going.{once_both, once_none}
use Rattle.word_trace.proofs.Making.{makes_at, makes_full, makes_none, makes_on, makes_with}
use Rattle.word_trace.proofs.trace.run_to_place.Goals as goal

pub loop-steps-init : goal.loop-steps-init
loop-steps-init g c = (
  [],
  [],
  record {
    consumes = Consumes-nil _;
    once = once_none c.args.player.now.is_over;
    waits = c.requires.waits;
    over = c.requires.over;
    runs = runs_none c.args.place 18446744073709551615 c.args.session.now (known c.args.player.now) c.args.player.now.is_over;
    makes = makes_none pass_step c.args.place 18446744073709551615 c.args.session.now (known c.args.player.now) c.args.player.now.is_over
        (gathered c.args.tracer.now);
    sheet = refl;
    out = sym (append-nil c.args.session.now.current.bus.out);
    appends = Appends-nil _;
  },
)

pub returns-in-Ok-Some-clause-ok : goal.returns-in-Ok-Some-clause-ok
returns-in-Ok-Some-clause-ok g c =
    let inv = c.loop-steps.invariant in
    let l = c.loop-steps in
    let turn = rw c.in-Ok-Some.field-0-is at c.in-Ok-Some.ensures.ok in
    let u = c.passed_turn.new.session in
    let p = c.passed_turn.new.player in record {
      told = inv.0 ++ turn.0;
      consumes = Consumes-trans _ _ _ inv.0 turn.0 inv.2.consumes turn.1.consumes;
      once = once_both c.args.player.now.is_over l.player.is_over p.is_over inv.0 turn.0 inv.2.once turn.1.once;
      leads = λ rest may. (
        ends_with c.args.place 18446744073709551615 c.args.session.now (known c.args.player.now) inv.0 l.player.is_over l.steps l.session
            (known l.player) inv.2.runs c.loop-steps-test.true
            turn.0 p.is_over (Some c.in-Ok-Some.ending) u (known p) turn.1.once turn.1.turn c.in-Ok-Some.ending refl rest may,
        makes_with pass_step c.args.place 18446744073709551615 c.args.session.now (known c.args.player.now) inv.0 l.player.is_over l.steps l.session
            (known l.player) (gathered c.args.tracer.now) (gathered l.tracer) inv.2.makes c.loop-steps-test.true
            turn.0 p.is_over (Some c.in-Ok-Some.ending) u (known p) turn.1.once turn.1.turn c.in-Ok-Some.ending refl rest may ∙ sym turn.2,
      );
    }

pub returns-in-Ok-Some-clause-over : goal.returns-in-Ok-Some-clause-over
returns-in-Ok-Some-clause-over g c =
    let inv = c.loop-steps.invariant in
    let turn = rw c.in-Ok-Some.field-0-is at c.in-Ok-Some.ensures.ok in
    still_over c.loop-steps.player.is_over c.passed_turn.new.player.is_over _ _ turn.1.over inv.2.over

pub returns-then-is_at-clause-ok : goal.returns-then-is_at-clause-ok
returns-then-is_at-clause-ok g c =
    let inv = c.loop-steps.invariant in
    let l = c.loop-steps in
    let turn = rw c.in-Ok-None.field-0-is at c.in-Ok-None.ensures.ok in
    let u = c.passed_turn.new.session in
    let p = c.passed_turn.new.player in
    let at' : is_at c.args.place u.current ≡ true = sym c.is_at.ensures ∙ c.if-is_at.true in record {
      told = inv.0 ++ turn.0;
      consumes = Consumes-trans _ _ _ inv.0 turn.0 inv.2.consumes turn.1.consumes;
      once = once_both c.args.player.now.is_over l.player.is_over p.is_over inv.0 turn.0 inv.2.once turn.1.once;
      leads = λ rest may. (
        ends_at c.args.place 18446744073709551615 c.args.session.now (known c.args.player.now) inv.0 l.player.is_over l.steps l.session
            (known l.player) inv.2.runs c.loop-steps-test.true
            turn.0 p.is_over None u (known p) turn.1.once turn.1.turn refl at' rest may,
        makes_at pass_step c.args.place 18446744073709551615 c.args.session.now (known c.args.player.now) inv.0 l.player.is_over l.steps l.session
            (known l.player) (gathered c.args.tracer.now) (gathered l.tracer) inv.2.makes c.loop-steps-test.true
            turn.0 p.is_over None u (known p) turn.1.once turn.1.turn (gathered c.passed_turn.new.tracer) turn.2 refl at' rest may,
      );
    }

pub returns-then-is_at-clause-over : goal.returns-then-is_at-clause-over
returns-then-is_at-clause-over g c =
    let inv = c.loop-steps.invariant in
    let turn = rw c.in-Ok-None.field-0-is at c.in-Ok-None.ensures.ok in
    still_over c.loop-steps.player.is_over c.passed_turn.new.player.is_over _ _ turn.1.over inv.2.over

pub loop-steps-preserved : goal.loop-steps-preserved
loop-steps-preserved g c =
    let inv = c.loop-steps.invariant in
    let l = c.loop-steps in
    let turn = rw c.in-Ok-None.field-0-is at c.in-Ok-None.ensures.ok in
    let u = c.passed_turn.new.session in
    let p = c.passed_turn.new.player in
    let more = c.in-Ok-None.ensures.output in
    let off : is_at c.args.place u.current ≡ false = sym c.is_at.ensures ∙ c.if-is_at.false in (
      inv.0 ++ turn.0,
      inv.1 ++ more.0,
      record {
        consumes = Consumes-trans _ _ _ inv.0 turn.0 inv.2.consumes turn.1.consumes;
        once = once_both c.args.player.now.is_over l.player.is_over p.is_over inv.0 turn.0 inv.2.once turn.1.once;
        waits = c.in-Ok-None.ensures.waits;
        over = still_over l.player.is_over p.is_over _ _ turn.1.over inv.2.over;
        runs = runs_on c.args.place 18446744073709551615 c.args.session.now (known c.args.player.now) inv.0 l.player.is_over l.steps l.session
            (known l.player) inv.2.runs c.loop-steps-test.true
            turn.0 p.is_over None u (known p) turn.1.once turn.1.turn refl off;
        makes = makes_on pass_step c.args.place 18446744073709551615 c.args.session.now (known c.args.player.now) inv.0 l.player.is_over l.steps
            l.session (known l.player) (gathered c.args.tracer.now) (gathered l.tracer) inv.2.makes c.loop-steps-test.true
            turn.0 p.is_over None u (known p) turn.1.once turn.1.turn (gathered c.passed_turn.new.tracer) turn.2 refl off;
        sheet = c.in-Ok-None.ensures.sheet ∙ inv.2.sheet;
        out = more.1 ∙ ap (λ out. out ++ more.0) inv.2.out ∙ append_assoc _ inv.1 more.0;
        appends = Appends-trans _ _ _ inv.1 more.0 inv.2.appends more.2;
      },
    )

pub returns-clause-ok : goal.returns-clause-ok
returns-clause-ok g c =
    let inv = c.loop-steps.invariant in
    let l = c.loop-steps in record {
      told = inv.0;
      consumes = inv.2.consumes;
      once = inv.2.once;
      leads = λ rest may. (
        ends_full c.args.place 18446744073709551615 c.args.session.now (known c.args.player.now) inv.0 l.player.is_over l.steps l.session
            (known l.player) inv.2.runs (omega (arith, c.loop-steps-test.false)) (omega (arith, c.loop-steps.auto.steps-end)) rest may
            ∙ ap (λ (e : Ending). record { steps = 18446744073709551615; ending = e; play = play_at l.session (known l.player) rest })
            (sym c.ending_after.ensures),
        makes_full pass_step c.args.place 18446744073709551615 c.args.session.now (known c.args.player.now) inv.0 l.player.is_over l.steps l.session
            (known l.player) (gathered c.args.tracer.now) (gathered l.tracer) inv.2.makes (omega (arith, c.loop-steps-test.false)) rest may,
      );
    }

pub returns-clause-over : goal.returns-clause-over
returns-clause-over g c = c.loop-steps.invariant.2.over

pub returns-clause-waits : goal.returns-clause-waits
returns-clause-waits g c = c.loop-steps.invariant.2.waits

pub returns-in-Ok-Some-clause-sheet : goal.returns-in-Ok-Some-clause-sheet
returns-in-Ok-Some-clause-sheet g c = c.in-Ok-Some.ensures.sheet ∙ c.loop-steps.invariant.2.sheet

-- a turn that failed
pub returns-in-Err-clause-err : goal.returns-in-Err-clause-err
returns-in-Err-clause-err g c =
    let inv = c.loop-steps.invariant in
    let l = c.loop-steps in
    let turn = c.in-Err.ensures.err in
    run_cut c.args.place 18446744073709551615 (λ (p : Play). p) (λ (p : Play). ⊤) c.args.session.now c.args.player.now _ _ _ inv.0 l.steps l.session
    l.player c.passed_turn.new.session c.passed_turn.new.player turn.0
    inv.2.consumes inv.2.once inv.2.runs c.loop-steps-test.true turn.1 (λ rest may. tt)

pub returns-in-Err-clause-over : goal.returns-in-Err-clause-over
returns-in-Err-clause-over g c =
    let inv = c.loop-steps.invariant in
    let turn = c.in-Err.ensures.err in
    still_over c.loop-steps.player.is_over c.passed_turn.new.player.is_over _ _ turn.1.over inv.2.over

pub returns-in-Err-clause-sheet : goal.returns-in-Err-clause-sheet
returns-in-Err-clause-sheet g c = c.in-Err.ensures.sheet ∙ c.loop-steps.invariant.2.sheet

pub returns-then-is_at-clause-sheet : goal.returns-then-is_at-clause-sheet
returns-then-is_at-clause-sheet g c = c.in-Ok-None.ensures.sheet ∙ c.loop-steps.invariant.2.sheet

pub returns-clause-sheet : goal.returns-clause-sheet
returns-clause-sheet g c = c.loop-steps.invariant.2.sheet

pub returns-in-Ok-Some-clause-output : goal.returns-in-Ok-Some-clause-output
returns-in-Ok-Some-clause-output g c =
    let inv = c.loop-steps.invariant in let more = c.in-Ok-Some.ensures.output in
    (inv.1 ++ more.0, more.1 ∙ ap (λ out. out ++ more.0) inv.2.out ∙ append_assoc _ inv.1 more.0, Appends-trans _ _ _ inv.1 more.0 inv.2.appends more.2)

pub returns-then-is_at-clause-output : goal.returns-then-is_at-clause-output
returns-then-is_at-clause-output g c =
    let inv = c.loop-steps.invariant in let more = c.in-Ok-None.ensures.output in
    (inv.1 ++ more.0, more.1 ∙ ap (λ out. out ++ more.0) inv.2.out ∙ append_assoc _ inv.1 more.0, Appends-trans _ _ _ inv.1 more.0 inv.2.appends more.2)

pub returns-in-Err-clause-output : goal.returns-in-Err-clause-output
returns-in-Err-clause-output g c =
    let inv = c.loop-steps.invariant in let more = c.in-Err.ensures.output in
    (inv.1 ++ more.0, more.1 ∙ ap (λ out. out ++ more.0) inv.2.out ∙ append_assoc _ inv.1 more.0, front_after _ _ _ inv.1 more.0 inv.2.appends more.2)

pub returns-clause-output : goal.returns-clause-output
returns-clause-output g c = let inv = c.loop-steps.invariant in (inv.1, inv.2.out, inv.2.appends)
