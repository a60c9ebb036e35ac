use Rattle.std.proofs.Common.{◌≡◌, ◌∙◌, ℕ, ◌+◌, ◌-◌, ◌<◌, suc, arith, ap}
use Rattle.model.specs.Session.{Session}
use Rattle.mon_dispatch.proofs.Rows.{row_last, row_more, rows_over}
use Rattle.mon_dispatch.proofs.looks.show_rows.Goals as goal

past : (at length len : ℕ) → (at + length < 65536 → ⊥) → length ≡ len → 65535 < at + len
past at length len none same = grind (arith, none, same)

pub loop-preserved : goal.loop-preserved
loop-preserved c =
    let n = c.args.count - (c.loop.counter + 1) in
    let some : c.args.count - c.loop.counter ≡ suc n = omega (arith, c.loop-test.true) in
    let shows = c.loop.invariant.shows in
    let shown = c.show_listed.ensures.shows in
    record {
      shows = (shown.0 ∙ shows.0, shown.1 ∙ shows.1, shown.2 ∙ shows.2, shown.3 ∙ shows.3, shown.4 ∙ shows.4);
      text = row_more c.args.mon.now.session.current c.loop.mon.session.current c.args.mon.now.places c.loop.mon.places
          (ap (λ (s : Session). s.current) shows.0) shows.3 _ n c.loop.at c.in-Some.next _ _ _ c.loop.invariant.text some
          c.in_ok-length.ensures.text (c.in-Some.ensures.1 ∙ ap (λ n. c.loop.at + n) c.in_ok-length.ensures.len)
          (omega (arith, c.in-Some.ensures));
    }

pub returns-in-None-clause-text : goal.returns-in-None-clause-text
returns-in-None-clause-text c =
    let n = c.args.count - (c.loop.counter + 1) in
    let some : c.args.count - c.loop.counter ≡ suc n = omega (arith, c.loop-test.true) in
    let shows = c.loop.invariant.shows in
    row_last c.args.mon.now.session.current c.loop.mon.session.current c.args.mon.now.places c.loop.mon.places
    (ap (λ (s : Session). s.current) shows.0) shows.3 _ n c.loop.at _ _ _ c.loop.invariant.text some
    c.in_ok-length.ensures.text (past _ _ _ c.in-None.ensures c.in_ok-length.ensures.len)

pub returns-clause-text : goal.returns-clause-text
returns-clause-text c = rows_over _ _ _ _ _ _ c.loop.invariant.text (omega (arith, c.loop-test.false))
