use Rattle.std.proofs.Common.{◌≡◌, ◌++◌, ◌∙◌, ◌+◌, [], ◌∷◌, true, false, Some, None, List, ℕ, arith, refl, sym, ap, subst, append_assoc}
use Rattle.console.specs.Playing.{is_at}
use Rattle.console.specs.Turns.{Known, first_known, known, play_at}
use Rattle.console.specs.declared.ending.Ending.{Ending}
use Rattle.console.specs.declared.ending.Ending.TheVariants.{Until}
use Rattle.console.proofs.Turning.{RunsOn, ends_at, ends_full, ends_with, runs_none, runs_on, still_over}
use Rattle.page_data.specs.Format.{bytes_of}
use Rattle.page_data.specs.Steps.{change_of}
use Rattle.page_writer.specs.Data.{IsSentSafely}
use Rattle.page_writer.specs.Steps.{Made, steps_of}
use Rattle.page_writer.proofs.Recording.{last_more, no_records, one_record, same_steps}
use Rattle.page_writer.proofs.Sending.{more_recorded, more_sent, none_recorded}
use Rattle.page_writer.proofs.Stepping.{StepsOn, all_made, made_at, made_before, made_on, none_made}
use Rattle.page_writer.proofs.Whole.{ran_whole}
use Rattle.page_writer.proofs.run.record_run.Goals as goal

pub loop-steps-init : goal.loop-steps-init
loop-steps-init g c =
    let s = c.args.session.now in
    let over = c.begin-player.result.is_over in (
      [],
      [],
      [],
      record {
        consumes = refl;
        waits = c.begin-player.ensures.waits;
        over = λ is. cc;
        runs = subst (λ (k : Known). RunsOn c.args.until c.args.limit s (first_known c.args.written) [] over 0 s k) (sym c.begin-player.ensures.known)
            (runs_none c.args.until c.args.limit s (first_known c.args.written) over);
        steps = subst (λ (k : Known). StepsOn c.args.until c.args.limit s (first_known c.args.written) [] over 0 s k []) (sym c.begin-player.ensures.known)
            (none_made c.args.until c.args.limit s (first_known c.args.written) over);
        are = no_records s.current;
        last = refl;
        sent = none_recorded _ c.args.pending.now.items;
      },
    )

-- a turn that ends the run
pub returns-in-Ok-Some : goal.returns-in-Ok-Some
returns-in-Ok-Some g c =
    let inv = c.loop-steps.invariant in
    let l = c.loop-steps in
    let s = c.args.session.now in
    let first = first_known c.args.written in
    let why = c.in-Ok-Some.ending in
    let turn = rw c.in-Ok-Some.field-0-is at c.in-Ok-Some.ensures.ok in
    let u = c.record_turn.new.session in
    let p = c.record_turn.new.player in
    let left = c.record_turn.new.input.now in
    let told = inv.0 ++ turn.told in
    let all : c.args.input.now ≡ told ++ left = inv.3.consumes ∙ ap (λ (x : List ℕ). inv.0 ++ x) turn.consumes ∙ sym (append_assoc inv.0 turn.told left) in
    let may = still_over l.player.is_over p.is_over _ _ turn.over inv.3.over in (
      left,
      inv.1,
      ran_whole c.args.until c.args.limit s u first (known p) c.args.input.now told left l.steps why all
          (ends_with c.args.until c.args.limit s first inv.0 l.player.is_over l.steps l.session (known l.player) inv.3.runs c.loop-steps-test.true
          turn.told p.is_over (Some why) u (known p) turn.once turn.turn why refl left may),
      same_steps s.current inv.2 _ inv.1 (ap (λ (x : List ℕ). steps_of c.args.until c.args.limit (play_at s first x)) all
          ∙ made_before c.args.until c.args.limit s first inv.0 l.player.is_over l.steps l.session (known l.player) inv.2 inv.3.steps
          c.loop-steps-test.true turn.told p.is_over u (known p) turn.once why turn.turn left may) inv.3.are,
      subst (λ (x : List ℕ). IsSentSafely (g.W.Write.contents c.args.writer.now) (g.W.Write.contents l.writer) (c.args.pending.now.items ++ inv.1) x)
          (sym turn.records) inv.3.sent,
    )

-- a turn that led to the address
pub returns-then-is_at : goal.returns-then-is_at
returns-then-is_at g c =
    let inv = c.loop-steps.invariant in
    let l = c.loop-steps in
    let s = c.args.session.now in
    let first = first_known c.args.written in
    let turn = rw c.in-Ok-None.field-0-is at c.in-Ok-None.ensures.ok in
    let u = c.record_turn.new.session in
    let p = c.record_turn.new.player in
    let left = c.record_turn.new.input.now in
    let told = inv.0 ++ turn.told in
    let more = bytes_of (change_of turn.told l.session.current u.current) in
    let all : c.args.input.now ≡ told ++ left = inv.3.consumes ∙ ap (λ (x : List ℕ). inv.0 ++ x) turn.consumes ∙ sym (append_assoc inv.0 turn.told left) in
    let may = still_over l.player.is_over p.is_over _ _ turn.over inv.3.over in
    let there : is_at c.args.until u.current ≡ true = sym c.is_at.ensures ∙ c.if-is_at.true in (
      left,
      inv.1 ++ more,
      ran_whole c.args.until c.args.limit s u first (known p) c.args.input.now told left (l.steps + 1) Until all
          (ends_at c.args.until c.args.limit s first inv.0 l.player.is_over l.steps l.session (known l.player) inv.3.runs c.loop-steps-test.true
          turn.told p.is_over None u (known p) turn.once turn.turn refl there left may),
      same_steps s.current _ _ (inv.1 ++ more) (ap (λ (x : List ℕ). steps_of c.args.until c.args.limit (play_at s first x)) all
          ∙ made_at c.args.until c.args.limit s first inv.0 l.player.is_over l.steps l.session (known l.player) inv.2 inv.3.steps
          c.loop-steps-test.true turn.told p.is_over u (known p) turn.once turn.turn there left may)
          (one_record s.current l.session.current u.current turn.told inv.2 inv.1 l.pending.items c.record_turn.new.pending.items inv.3.are inv.3.last
          turn.records),
      more_sent _ _ _ _ _ _ (more_recorded _ _ c.args.pending.now.items inv.1 more l.pending.items c.record_turn.new.pending.items inv.3.sent
          turn.records.pushed) c.in_ok-send_many.ensures,
    )

pub loop-steps-preserved : goal.loop-steps-preserved
loop-steps-preserved g c =
    let inv = c.loop-steps.invariant in
    let l = c.loop-steps in
    let s = c.args.session.now in
    let first = first_known c.args.written in
    let turn = rw c.in-Ok-None.field-0-is at c.in-Ok-None.ensures.ok in
    let u = c.record_turn.new.session in
    let p = c.record_turn.new.player in
    let left = c.record_turn.new.input.now in
    let more = bytes_of (change_of turn.told l.session.current u.current) in
    let m : Made = record { before = l.session.current; given = turn.told; after = u.current } in
    let off : is_at c.args.until u.current ≡ false = sym c.is_at.ensures ∙ c.if-is_at.false in (
      inv.0 ++ turn.told,
      inv.1 ++ more,
      inv.2 ++ m ∷ [],
      record {
        consumes = inv.3.consumes ∙ ap (λ (x : List ℕ). inv.0 ++ x) turn.consumes ∙ sym (append_assoc inv.0 turn.told left);
        waits = c.in-Ok-None.ensures.waits;
        over = still_over l.player.is_over p.is_over _ _ turn.over inv.3.over;
        runs = runs_on c.args.until c.args.limit s first inv.0 l.player.is_over l.steps l.session (known l.player) inv.3.runs c.loop-steps-test.true
            turn.told p.is_over None u (known p) turn.once turn.turn refl off;
        steps = made_on c.args.until c.args.limit s first inv.0 l.player.is_over l.steps l.session (known l.player) inv.2 inv.3.steps
            c.loop-steps-test.true turn.told p.is_over u (known p) turn.once turn.turn off;
        are = one_record s.current l.session.current u.current turn.told inv.2 inv.1 l.pending.items c.record_turn.new.pending.items inv.3.are
            inv.3.last turn.records;
        last = last_more s.current inv.2 m;
        sent = more_sent _ _ _ _ _ _ (more_recorded _ _ c.args.pending.now.items inv.1 more l.pending.items c.record_turn.new.pending.items inv.3.sent
            turn.records.pushed) c.in_ok-send_many.ensures;
      },
    )

-- all steps that were asked for
pub returns : goal.returns
returns g c =
    let inv = c.loop-steps.invariant in
    let l = c.loop-steps in
    let s = c.args.session.now in
    let first = first_known c.args.written in
    let left = l.left.now in (
      left,
      inv.1,
      ran_whole c.args.until c.args.limit s l.session first (known l.player) c.args.input.now inv.0 left c.args.limit c.ending_after.result inv.3.consumes
          (ends_full c.args.until c.args.limit s first inv.0 l.player.is_over l.steps l.session (known l.player) inv.3.runs
          (omega (arith, c.loop-steps-test.false)) (omega (arith, c.loop-steps.auto.steps-end)) left inv.3.over
          ∙ ap (λ (e : Ending). record { steps = c.args.limit; ending = e; play = play_at l.session (known l.player) left }) (sym c.ending_after.ensures)),
      same_steps s.current inv.2 _ inv.1 (ap (λ (x : List ℕ). steps_of c.args.until c.args.limit (play_at s first x)) inv.3.consumes
          ∙ all_made c.args.until c.args.limit s first inv.0 l.player.is_over l.steps l.session (known l.player) inv.2 inv.3.steps
          (omega (arith, c.loop-steps-test.false)) left inv.3.over) inv.3.are,
      inv.3.sent,
    )
