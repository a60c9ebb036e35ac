use Rattle.std.proofs.Common.{◌+◌, ◌++◌, ◌∷◌, [], get_or, sym, ap, ◌∙◌, drop, true, false}
use Rattle.std.proofs.KnownBytes.{Appends-trans}
use Rattle.engine.specs.Feeding.{feed, fed, fed_after}
use Rattle.model.proofs.Written.{front_after, front_more}
use Rattle.engine.proofs.Feeds.{feed_at, fed_then, then_on, then_quit, then_written, feed_end}
use Rattle.engine.proofs.lines.serve_bytes.Goals as goal

pub returns-in-Ok-true-clause-writes : goal.returns-in-Ok-true-clause-writes
returns-in-Ok-true-clause-writes g c =
    let inv = c.loop-byte.invariant in
    let all = inv.2 ∙ ap (fed_after inv.0) (feed_at _ _ c.args.bytes.now c.loop-byte.byte-index c.loop-byte-test.true
    ∙ ap (λ r. fed_then r (drop (c.loop-byte.byte-index + 1) c.args.bytes.now)) (rw c.in-Ok-true.field-0-test at c.in-Ok-true.ensures.ok))
    ∙ then_quit inv.0 _ _ _ _ in
    rw all (Appends-trans _ _ _ _ _ inv.1 c.in-Ok-true.ensures.writes)

pub returns-in-Ok-true-clause-ok : goal.returns-in-Ok-true-clause-ok
returns-in-Ok-true-clause-ok g c =
    let inv = c.loop-byte.invariant in
    let all = inv.2 ∙ ap (fed_after inv.0) (feed_at _ _ c.args.bytes.now c.loop-byte.byte-index c.loop-byte-test.true
    ∙ ap (λ r. fed_then r (drop (c.loop-byte.byte-index + 1) c.args.bytes.now)) (rw c.in-Ok-true.field-0-test at c.in-Ok-true.ensures.ok))
    ∙ then_quit inv.0 _ _ _ _ in
    all ∙ sym (ap (λ r. fed r.written c.serve_byte.new.session c.serve_byte.new.begun.items true) all)

pub returns-in-Err-clause-writes : goal.returns-in-Err-clause-writes
returns-in-Err-clause-writes g c =
    let inv = c.loop-byte.invariant in
    let bs = drop (c.loop-byte.byte-index + 1) c.args.bytes.now in
    let r = feed c.loop-byte.session c.loop-byte.begun.items (get_or c.args.bytes.now c.loop-byte.byte-index 0 ∷ []) in
    let more = then_written r bs in
    let all = inv.2 ∙ ap (fed_after inv.0) (feed_at _ _ c.args.bytes.now c.loop-byte.byte-index c.loop-byte-test.true) in
    rw (all, more.1) (front_after _ _ _ inv.0 (r.written ++ more.0) inv.1 (front_more _ _ r.written more.0 c.in-Err.ensures.writes))

pub loop-byte-preserved : goal.loop-byte-preserved
loop-byte-preserved g c =
    let inv = c.loop-byte.invariant in (
      _,
      Appends-trans _ _ _ _ _ inv.1 c.in-Ok-false.ensures.writes,
      inv.2 ∙ ap (fed_after inv.0) (feed_at _ _ c.args.bytes.now c.loop-byte.byte-index c.loop-byte-test.true
          ∙ ap (λ r. fed_then r (drop (c.loop-byte.byte-index + 1) c.args.bytes.now)) (rw c.in-Ok-false.field-0-test at c.in-Ok-false.ensures.ok))
          ∙ then_on inv.0 _ _ _ _,
    )

pub returns-clause-writes : goal.returns-clause-writes
returns-clause-writes g c = let inv = c.loop-byte.invariant in
    rw (inv.2 ∙ feed_end _ _ c.args.bytes.now inv.0 c.loop-byte.byte-index c.loop-byte-test.false) inv.1

pub returns-clause-ok : goal.returns-clause-ok
returns-clause-ok g c =
    let inv = c.loop-byte.invariant in
    let all = inv.2 ∙ feed_end c.loop-byte.session c.loop-byte.begun.items c.args.bytes.now inv.0 c.loop-byte.byte-index c.loop-byte-test.false in
    all ∙ sym (ap (λ r. fed r.written c.loop-byte.session c.loop-byte.begun.items false) all)
