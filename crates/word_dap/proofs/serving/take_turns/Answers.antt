use Rattle.std.proofs.Common.{[], ◌++◌, List, ℕ, option_map, subst, sym, ap}
use Rattle.std.proofs.KnownBytes.{Appends-nil, Appends-trans, Consumes-nil}
use Rattle.word_dap.proofs.Runs.{turn_ends, turn_goes_on}
use Rattle.word_dap.specs.Attended.{Turns}
use Rattle.word_dap.specs.Served.{Answers}
use Rattle.json_messages.proofs.Sessions.{cut_between, cut_over, cut_within, served_last, served_on, unserved}
use Rattle.json_messages.specs.Sessions.{BeginsTurn, IsServedSoFar}
use Rattle.json_messages.specs.Taken.{Held}
use Rattle.json_messages.specs.declared.fault.StreamFault.TheVariants as fault
use Rattle.word_dap.proofs.serving.take_turns.Goals as goal

pub loop-init : goal.loop-init
loop-init g c =
    let turns = Turns (option_map (λ s. s.now) c.args.seen) in
    let given = g.R.Read.remaining c.args.input.now in
    let none = ap (λ (h : Held). h.bytes) c.new-incoming.ensures in (
      [],
      subst (λ (held : List ℕ). IsServedSoFar turns given given held (c.args.adapter.now, 0) (c.args.adapter.now, 0) []) (sym none)
          (unserved turns given (c.args.adapter.now, 0)),
      Appends-nil _,
    )

pub returns-then-is_end-clause-ended : goal.returns-then-is_end-clause-ended
returns-then-is_end-clause-ended g c =
    let inv = c.loop.invariant in
    let seen = option_map (λ s. s.now) c.args.seen in
    let came = c.in-Ok-Some.ensures.taken in
    let body = c.in-Ok-Some.body.items in
    let front = rw (c.in-Ok-Some.field-0-is) at came.3 in
    let turn = rw c.if-is_end.true at c.in-Ok.ensures.answered in
    let new = c.answer.new.adapter in
    let total = c.in-Ok.total in
    let answers = subst (λ (b : List ℕ). Answers seen b c.loop.adapter c.loop.sent new total _ turn.0) c.deref.ensures.value turn.1 in (
      inv.0 ++ turn.0,
      served_last (Turns seen) _ _ _ c.loop.incoming.bytes came.0 body c.next.new.self.bytes (c.args.adapter.now, 0) (c.loop.adapter, c.loop.sent)
          (new, total) 0 inv.0 turn.0 inv.1 came.1 front
          (turn_ends seen body c.loop.adapter c.loop.sent new total turn.0 answers),
      Appends-trans _ _ _ inv.0 turn.0 inv.2 turn.2,
    )

pub loop-preserved : goal.loop-preserved
loop-preserved g c =
    let inv = c.loop.invariant in
    let seen = option_map (λ s. s.now) c.args.seen in
    let came = c.in-Ok-Some.ensures.taken in
    let body = c.in-Ok-Some.body.items in
    let front = rw (c.in-Ok-Some.field-0-is) at came.3 in
    let turn = rw c.if-is_end.false at c.in-Ok.ensures.answered in
    let new = c.answer.new.adapter in
    let total = c.in-Ok.total in
    let answers = subst (λ (b : List ℕ). Answers seen b c.loop.adapter c.loop.sent new total _ turn.0) c.deref.ensures.value turn.1 in (
      inv.0 ++ turn.0,
      served_on (Turns seen) _ _ _ c.loop.incoming.bytes came.0 body c.next.new.self.bytes (c.args.adapter.now, 0) (c.loop.adapter, c.loop.sent)
          (new, total) inv.0 turn.0 inv.1 came.1 front
          (turn_goes_on seen body c.loop.adapter c.loop.sent new total turn.0 answers),
      Appends-trans _ _ _ inv.0 turn.0 inv.2 turn.2,
    )

pub returns-in-Err-answer-clause-cut : goal.returns-in-Err-answer-clause-cut
returns-in-Err-answer-clause-cut g c =
    let inv = c.loop.invariant in
    let seen = option_map (λ s. s.now) c.args.seen in
    let came = c.in-Ok-Some.ensures.taken in
    let body = c.in-Ok-Some.body.items in
    let front = rw (c.in-Ok-Some.field-0-is) at came.3 in
    let begun = c.in-Err-answer.ensures.begun in
    let turn = subst (λ (b : List ℕ). BeginsTurn (Turns seen) b (c.loop.adapter, c.loop.sent) begun.0) c.deref.ensures.value begun.1 in (
      inv.0 ++ begun.0,
      cut_within (Turns seen) _ _ _ c.loop.incoming.bytes came.0 body c.next.new.self.bytes (c.args.adapter.now, 0) (c.loop.adapter, c.loop.sent)
          c.in-Err-answer.fault inv.0 begun.0 inv.1 came.1 front
          c.in-Err-answer.ensures.fault turn,
      Appends-trans _ _ _ inv.0 begun.0 inv.2 begun.2,
    )

pub returns-in-Ok-None-clause-cut : goal.returns-in-Ok-None-clause-cut
returns-in-Ok-None-clause-cut g c =
    let inv = c.loop.invariant in
    let seen = option_map (λ s. s.now) c.args.seen in
    let came = c.in-Ok-None.ensures.taken in
    let over = rw (c.in-Ok-None.field-0-is) at came.3 in (
      inv.0,
      cut_over (Turns seen) _ _ _ c.loop.incoming.bytes came.0 (c.args.adapter.now, 0) (c.loop.adapter, c.loop.sent) inv.0 inv.1 came.1 over,
      inv.2,
    )

pub returns-in-Err-clause-cut : goal.returns-in-Err-clause-cut
returns-in-Err-clause-cut g c =
    let inv = c.loop.invariant in
    let seen = option_map (λ s. s.now) c.args.seen in
    let came = c.in-Err.ensures.taken in (
      inv.0,
      cut_between (Turns seen) _ _ _ c.loop.incoming.bytes came.0 (c.args.adapter.now, 0) (c.loop.adapter, c.loop.sent) c.in-Err.fault inv.0 inv.1
          came.1 came.3,
      inv.2,
    )

pub returns-clause-cut : goal.returns-clause-cut
returns-clause-cut g c =
    let inv = c.loop.invariant in
    let seen = option_map (λ s. s.now) c.args.seen in (
      inv.0,
      cut_between (Turns seen) _ _ _ c.loop.incoming.bytes [] (c.args.adapter.now, 0) (c.loop.adapter, c.loop.sent) fault.Read inv.0 inv.1 (Consumes-nil _) tt,
      inv.2,
    )
