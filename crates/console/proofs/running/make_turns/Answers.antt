use Rattle.std.proofs.Common.{◌≡◌, ◌+◌, ◌++◌, [], true, false, Some, arith, refl, sym, ap, ◌∙◌, append-nil, append_assoc, subst}
use Rattle.std.proofs.KnownBytes.{Appends-kept, Appends-nil, Appends-trans, Consumes-nil, Consumes-trans}
use Rattle.model.proofs.Written.{front_after}
use Rattle.console.specs.Playing.{begun, is_at, played}
use Rattle.console.specs.Turns.{first_known, known, play_at}
use Rattle.console.specs.Written.{CutRun, RanAs}
use Rattle.console.specs.declared.ending.Ending.{Ending}
use Rattle.console.specs.declared.ending.Ending.TheVariants.{Until}
use Rattle.console.proofs.Turning.{GoesOn, RunsOn, cut_here, cut_run, ends_full, ends_kept, ends_with, goes_far, goes_past, goes_there, goes_turn, ran_as, runs_none, still_over, whole_input}
use Rattle.console.proofs.running.make_turns.Goals as goal

pub loop-steps-init : goal.loop-steps-init
loop-steps-init g c = (
  [],
  [],
  record {
    within = omega arith;
    flushed = omega arith;
    consumes = Consumes-nil _;
    appends = Appends-nil _;
    out = sym (append-nil _);
    waits = c.begin-player.ensures.waits;
    over = λ is. cc;
    runs = subst (λ k. RunsOn c.args.until c.args.limit c.args.session.now (first_known c.args.written) [] c.begin-player.result.is_over 0
        c.args.session.now k) (sym c.begin-player.ensures.known)
        (runs_none c.args.until c.args.limit c.args.session.now (first_known c.args.written) c.begin-player.result.is_over);
  },
)

-- a flush that failed
pub returns-in-Err-clause-err : goal.returns-in-Err-clause-err
returns-in-Err-clause-err g c =
    let inv = c.loop-steps.invariant in
    let l = c.loop-steps in
    let s = c.args.session.now in
    whole_input _ _ inv.0 l.player.is_over (λ input left. CutRun c.args.until c.args.limit (begun s c.args.written input) l.session left)
    inv.2.consumes inv.2.over
    (λ rest may. cut_here c.args.until c.args.limit s (first_known c.args.written) inv.0 l.player.is_over l.steps l.session (known l.player)
    inv.2.runs c.loop-steps-test.true rest may)

pub returns-in-Err-clause-output : goal.returns-in-Err-clause-output
returns-in-Err-clause-output g c =
    let inv = c.loop-steps.invariant in
    (inv.1, inv.2.out, ends_kept _ _ _ inv.1 inv.2.appends c.flush_at_times.ensures.kept)

-- a turn that ends the run
pub returns-in-Ok-Some-clause-ok : goal.returns-in-Ok-Some-clause-ok
returns-in-Ok-Some-clause-ok g c =
    let inv = c.loop-steps.invariant in
    let l = c.loop-steps in
    let s = c.args.session.now in
    let turn = rw c.in-Ok-Some.field-0-is at c.in-Ok-Some.ensures.ok in
    let u = c.take_turn.new.session in let p = c.take_turn.new.player in
    whole_input _ _ (inv.0 ++ turn.0) p.is_over (λ input left.
    RanAs (played c.args.until c.args.limit (begun s c.args.written input)) (record { steps = l.steps; ending = c.in-Ok-Some.ending }) u left)
    (Consumes-trans _ _ _ inv.0 turn.0 inv.2.consumes turn.1) (still_over l.player.is_over p.is_over _ _ turn.2 inv.2.over)
    (λ rest may. ran_as _ l.steps c.in-Ok-Some.ending u (known p) rest
    (ends_with c.args.until c.args.limit s (first_known c.args.written) inv.0 l.player.is_over l.steps l.session (known l.player) inv.2.runs
    c.loop-steps-test.true turn.0 p.is_over (Some c.in-Ok-Some.ending) u (known p) turn.3 turn.4 c.in-Ok-Some.ending refl rest may))

pub returns-in-Ok-Some-clause-output : goal.returns-in-Ok-Some-clause-output
returns-in-Ok-Some-clause-output g c =
    let inv = c.loop-steps.invariant in let more = c.in-Ok-Some.ensures.output in (
      inv.1 ++ more.0,
      more.1 ∙ ap (λ out. out ++ more.0) inv.2.out
          ∙ append_assoc _ inv.1 more.0,
      Appends-trans _ _ _ inv.1 more.0 (Appends-kept _ _ _ inv.1 inv.2.appends c.flush_at_times.ensures.kept) more.2,
    )

-- a turn that failed
pub returns-in-Err-take_turn-clause-err : goal.returns-in-Err-take_turn-clause-err
returns-in-Err-take_turn-clause-err g c =
    let inv = c.loop-steps.invariant in
    let l = c.loop-steps in
    let s = c.args.session.now in
    let turn = c.in-Err-take_turn.ensures.err in
    let u = c.take_turn.new.session in let p = c.take_turn.new.player in
    whole_input _ _ (inv.0 ++ turn.0) p.is_over (λ input left. CutRun c.args.until c.args.limit (begun s c.args.written input) u left)
    (Consumes-trans _ _ _ inv.0 turn.0 inv.2.consumes turn.1) (still_over l.player.is_over p.is_over _ _ turn.2 inv.2.over)
    (λ rest may. cut_run c.args.until c.args.limit s (first_known c.args.written) inv.0 l.player.is_over l.steps l.session (known l.player) inv.2.runs
    c.loop-steps-test.true turn.0 p.is_over u turn.3 turn.4 rest may)

pub returns-in-Err-take_turn-clause-output : goal.returns-in-Err-take_turn-clause-output
returns-in-Err-take_turn-clause-output g c =
    let inv = c.loop-steps.invariant in let more = c.in-Err-take_turn.ensures.output in (
      inv.1 ++ more.0,
      more.1 ∙ ap (λ out. out ++ more.0) inv.2.out
          ∙ append_assoc _ inv.1 more.0,
      front_after _ _ _ inv.1 more.0 (Appends-kept _ _ _ inv.1 inv.2.appends c.flush_at_times.ensures.kept) more.2,
    )

-- a stretch that led to the address
pub returns-then-is_at-clause-ok : goal.returns-then-is_at-clause-ok
returns-then-is_at-clause-ok g c =
    let inv = c.loop-steps.invariant in
    let l = c.loop-steps in
    let s = c.args.session.now in
    let turn = rw c.in-Ok-None.field-0-is at c.in-Ok-None.ensures.ok in
    let u = c.take_turn.new.session in let p = c.take_turn.new.player in
    let v = c.glide-steps.new.session in let q = c.glide-steps.new.player in
    let steps = l.steps + 1 + c.glide-steps.result in
    let at' : is_at c.args.until v.current ≡ true = sym c.is_at.ensures ∙ c.if-is_at.true in
    let far : GoesOn c.args.until c.args.limit s (first_known c.args.written) (inv.0 ++ turn.0) p.is_over steps v (known q)
    = goes_far c.args.until c.args.limit s (first_known c.args.written) (inv.0 ++ turn.0) p.is_over (l.steps + 1) u (known p)
    (goes_turn c.args.until c.args.limit s (first_known c.args.written) inv.0 l.player.is_over l.steps l.session (known l.player) inv.2.runs
    c.loop-steps-test.true turn.0 p.is_over u (known p) turn.3 turn.4)
    c.glide-steps.result v (known q) c.glide-steps.ensures.turns c.glide-steps.ensures.within in
    whole_input _ _ (inv.0 ++ turn.0) p.is_over (λ input left.
    RanAs (played c.args.until c.args.limit (begun s c.args.written input)) (record { steps = steps; ending = Until }) v left)
    (Consumes-trans _ _ _ inv.0 turn.0 inv.2.consumes turn.1) (still_over l.player.is_over p.is_over _ _ turn.2 inv.2.over)
    (λ rest may. ran_as _ steps Until v (known q) rest
    (goes_there c.args.until c.args.limit s (first_known c.args.written) (inv.0 ++ turn.0) p.is_over steps v (known q) far at' rest may))

pub returns-then-is_at-clause-output : goal.returns-then-is_at-clause-output
returns-then-is_at-clause-output g c =
    let inv = c.loop-steps.invariant in let more = c.in-Ok-None.ensures.output in (
      inv.1 ++ more.0,
      c.glide-steps.ensures.output ∙ more.1 ∙ ap (λ out. out ++ more.0) inv.2.out
          ∙ append_assoc _ inv.1 more.0,
      Appends-trans _ _ _ inv.1 more.0 (Appends-kept _ _ _ inv.1 inv.2.appends c.flush_at_times.ensures.kept) more.2,
    )

pub loop-steps-preserved : goal.loop-steps-preserved
loop-steps-preserved g c =
    let inv = c.loop-steps.invariant in
    let l = c.loop-steps in
    let s = c.args.session.now in
    let turn = rw c.in-Ok-None.field-0-is at c.in-Ok-None.ensures.ok in
    let more = c.in-Ok-None.ensures.output in
    let u = c.take_turn.new.session in let p = c.take_turn.new.player in
    let v = c.glide-steps.new.session in let q = c.glide-steps.new.player in
    let steps = l.steps + 1 + c.glide-steps.result in
    let off : is_at c.args.until v.current ≡ false = sym c.is_at.ensures ∙ c.if-is_at.false in
    let far : GoesOn c.args.until c.args.limit s (first_known c.args.written) (inv.0 ++ turn.0) p.is_over steps v (known q)
    = goes_far c.args.until c.args.limit s (first_known c.args.written) (inv.0 ++ turn.0) p.is_over (l.steps + 1) u (known p)
    (goes_turn c.args.until c.args.limit s (first_known c.args.written) inv.0 l.player.is_over l.steps l.session (known l.player) inv.2.runs
    c.loop-steps-test.true turn.0 p.is_over u (known p) turn.3 turn.4)
    c.glide-steps.result v (known q) c.glide-steps.ensures.turns c.glide-steps.ensures.within in
    let over = c.glide-steps.ensures.over in (
      inv.0 ++ turn.0,
      inv.1 ++ more.0,
      record {
        within = omega (arith, c.glide-steps.ensures.within, c.loop-steps-test.true);
        flushed = omega (arith, c.in-Ok.ensures.within);
        consumes = Consumes-trans _ _ _ inv.0 turn.0 inv.2.consumes turn.1;
        appends = Appends-trans _ _ _ inv.1 more.0 (Appends-kept _ _ _ inv.1 inv.2.appends c.flush_at_times.ensures.kept) more.2;
        out = c.glide-steps.ensures.output ∙ more.1 ∙ ap (λ out. out ++ more.0) inv.2.out ∙ append_assoc _ inv.1 more.0;
        waits = c.glide-steps.ensures.waits;
        over = λ is. still_over l.player.is_over p.is_over _ _ turn.2 inv.2.over (sym over ∙ is);
        runs = subst (λ b. RunsOn c.args.until c.args.limit s (first_known c.args.written) (inv.0 ++ turn.0) b steps v (known q)) (sym over)
            (goes_past c.args.until c.args.limit s (first_known c.args.written) (inv.0 ++ turn.0) p.is_over steps v (known q) far off);
      },
    )

pub returns-clause-ok : goal.returns-clause-ok
returns-clause-ok g c =
    let inv = c.loop-steps.invariant in
    let l = c.loop-steps in
    let s = c.args.session.now in
    let why = c.ending_after.result in
    whole_input _ _ inv.0 l.player.is_over (λ input left. RanAs (played c.args.until c.args.limit (begun s c.args.written input))
    (record { steps = c.args.limit; ending = why }) l.session left)
    inv.2.consumes inv.2.over
    (λ rest may. ran_as _ c.args.limit why l.session (known l.player) rest
    (ends_full c.args.until c.args.limit s (first_known c.args.written) inv.0 l.player.is_over l.steps l.session (known l.player) inv.2.runs
    (omega (arith, c.loop-steps-test.false)) inv.2.within rest may
    ∙ ap (λ (e : Ending). record { steps = c.args.limit; ending = e; play = play_at l.session (known l.player) rest }) (sym c.ending_after.ensures)))
