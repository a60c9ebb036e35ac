use Rattle.std.proofs.Common.{◌++◌, [], inl, inr, List, ℕ, refl, subst, sym}
use Rattle.std.proofs.KnownBytes.{Appends-nil, Appends-trans, Consumes-nil}
use Rattle.word_lsp.specs.Sessions.{Answers}
use Rattle.word_lsp.specs.State.{State, server_view, start}
use Rattle.json_messages.specs.Sessions.{IsServedSoFar}
use Rattle.json_messages.proofs.Sessions.{cut_between, cut_over, cut_within, served_last, served_on, served_whole, unserved}
use Rattle.json_messages.specs.declared.fault.StreamFault.TheVariants.{Read}
use Rattle.word_lsp.proofs.Small.{small_status}
use Rattle.word_lsp.proofs.serving.attend.Goals as goal

pub loop-init : goal.loop-init
loop-init g c =
    let given = g.R.Read.remaining c.args.input.now in
    let begun = subst (λ (s : State). IsServedSoFar (Answers c.args.map.now) given given [] start s []) (sym c.requires.fresh)
    (unserved (Answers c.args.map.now) given start) in (
      [],
      subst (λ (held : List ℕ). IsServedSoFar (Answers c.args.map.now) given given held start (server_view c.args.server.now) []) (sym c.requires.empty) begun,
      Appends-nil _,
    )

pub returns-in-Ok-Some-answer-clause-session : goal.returns-in-Ok-Some-answer-clause-session
returns-in-Ok-Some-answer-clause-session g c =
    let inv = c.loop.invariant in
    let came = c.in-Ok-Some.ensures.taken in
    let front = rw (c.in-Ok-Some.field-0-is) at came.3 in
    let turn = rw (c.in-Ok-Some-answer.field-0-is) at c.in-Ok-Some-answer.ensures in (
      inv.0 ++ turn.0,
      inl (served_last (Answers c.args.map.now) _ _ _ c.loop.incoming.bytes came.0 c.in-Ok-Some.body.items c.next.new.self.bytes start
          (server_view c.loop.server) (server_view c.answer.new.server) c.in-Ok-Some-answer.status inv.0 turn.0 inv.1 came.1 front turn.1),
      Appends-trans _ _ _ inv.0 turn.0 inv.2 turn.2,
    )

pub returns-in-Ok-Some-answer-clause-small : goal.returns-in-Ok-Some-answer-clause-small
returns-in-Ok-Some-answer-clause-small g c =
    let turn = rw (c.in-Ok-Some-answer.field-0-is) at c.in-Ok-Some-answer.ensures in
    small_status c.args.map.now c.in-Ok-Some.body.items (server_view c.loop.server) (server_view c.answer.new.server) c.in-Ok-Some-answer.status turn.0 turn.1

pub returns-in-ShutDown-clause-session : goal.returns-in-ShutDown-clause-session
returns-in-ShutDown-clause-session g c =
    let inv = c.loop.invariant in
    let came = c.in-Ok-None.ensures.taken in
    let over = rw (c.in-Ok-None.field-0-is) at came.3 in
    let served = served_whole (Answers c.args.map.now) _ _ _ c.loop.incoming.bytes came.0 start (server_view c.loop.server) inv.0 inv.1 came.1 over.0 in
    (inv.0, inr (server_view c.loop.server, served, over.1, c.in-ShutDown.is, refl), inv.2)

pub loop-preserved : goal.loop-preserved
loop-preserved g c =
    let inv = c.loop.invariant in
    let came = c.in-Ok-Some.ensures.taken in
    let front = rw (c.in-Ok-Some.field-0-is) at came.3 in
    let turn = rw (c.in-Ok-None-answer.field-0-is) at c.in-Ok-None-answer.ensures in (
      inv.0 ++ turn.0,
      served_on (Answers c.args.map.now) _ _ _ c.loop.incoming.bytes came.0 c.in-Ok-Some.body.items c.next.new.self.bytes start
          (server_view c.loop.server) (server_view c.answer.new.server) inv.0 turn.0 inv.1 came.1 front turn.1,
      Appends-trans _ _ _ inv.0 turn.0 inv.2 turn.2,
    )

-- ---- a fault

pub returns-in-Err-answer-clause-session : goal.returns-in-Err-answer-clause-session
returns-in-Err-answer-clause-session g c =
    let inv = c.loop.invariant in
    let came = c.in-Ok-Some.ensures.taken in
    let front = rw (c.in-Ok-Some.field-0-is) at came.3 in
    let turn = c.in-Err-answer.ensures in (
      inv.0 ++ turn.1,
      cut_within (Answers c.args.map.now) _ _ _ c.loop.incoming.bytes came.0 c.in-Ok-Some.body.items c.next.new.self.bytes start
          (server_view c.loop.server) c.in-Err-answer.fault inv.0 turn.1 inv.1 came.1 front turn.0 turn.2,
      Appends-trans _ _ _ inv.0 turn.1 inv.2 turn.3,
    )

pub returns-in-Fresh-clause-session : goal.returns-in-Fresh-clause-session
returns-in-Fresh-clause-session g c =
    let inv = c.loop.invariant in
    let came = c.in-Ok-None.ensures.taken in
    let over = rw (c.in-Ok-None.field-0-is) at came.3 in
    (inv.0, cut_over (Answers c.args.map.now) _ _ _ c.loop.incoming.bytes came.0 start (server_view c.loop.server) inv.0 inv.1 came.1 over, inv.2)

pub returns-in-Err-clause-session : goal.returns-in-Err-clause-session
returns-in-Err-clause-session g c =
    let inv = c.loop.invariant in
    let came = c.in-Err.ensures.taken in (
      inv.0,
      cut_between (Answers c.args.map.now) _ _ _ c.loop.incoming.bytes came.0 start (server_view c.loop.server) c.in-Err.fault inv.0 inv.1
          came.1 came.3,
      inv.2,
    )

pub returns-clause-session : goal.returns-clause-session
returns-clause-session g c =
    let inv = c.loop.invariant in
    (inv.0, cut_between (Answers c.args.map.now) _ _ _ c.loop.incoming.bytes [] start (server_view c.loop.server) Read inv.0 inv.1 (Consumes-nil _) tt, inv.2)
