use Rattle.std.proofs.Common.{◌≡◌, ◌-◌, ◌∙◌, sym, ap, refl, arith, length, drop, length-append, None}
use Rattle.std.specs.Prelude.{slice_get}
use Rattle.circular_buffer.proofs.Places.{slice_get-some}
use Rattle.debugger.proofs.Noting.{kept_all}
use Rattle.debugger.proofs.Stamps.{tells_let_go}
use Rattle.debugger.proofs.trail.drop_oldest.Goals as goal

pub returns-in-Some-clause-many : goal.returns-in-Some-clause-many
returns-in-Some-clause-many c = λ many.
    let old = c.args.trail.now in
    let n : length old.events.items - (c.len-rest.result - 1024) ≡ 1024 = omega (arith, c.len-rest.ensures.len) in
    record {
      events = ap (λ b. b.items) c.truncate_front.ensures ∙ ap (λ m. drop m old.events.items) n;
      kept = ap (λ b. b.items) c.pop_front.ensures.items;
      spare = ap (λ b. length b.items) c.push_back.ensures.items
          ∙ ap length (kept_all old.spare.capacity old.spare.items c.in-Some.checkpoint c.requires.room) ∙ length-append old.spare.items _;
      room = record {
        kept = ap (λ b. b.capacity) c.pop_front.ensures.items;
        spare = ap (λ b. b.capacity) c.push_back.ensures.items;
        events = ap (λ b. b.capacity) c.truncate_front.ensures;
        held = refl;
        history = refl;
      };
    }

pub returns-in_default-clause-many : goal.returns-in_default-clause-many
returns-in_default-clause-many c = λ many.
    let got = slice_get-some c.args.trail.now.kept.items 0 c.requires.kept in
    let none : slice_get c.args.trail.now.kept.items 0 ≡ None = sym c.pop_front.ensures.value ∙ c.in_default.is in
    cc

pub returns-in-Some-clause-pages : goal.returns-in-Some-clause-pages
returns-in-Some-clause-pages c = λ memory told.
    let old = c.args.trail.now in
    let p = c.args.pages.now in
    tells_let_go p.now p.spare c.saturating_sub-pages.result p.stamps old.kept.items old.spare.items _ _ c.in-Some.checkpoint memory
    (sym c.pop_front.ensures.value ∙ c.in-Some.is) (ap (λ b. b.items) c.pop_front.ensures.items)
    (ap (λ b. b.items) c.push_back.ensures.items ∙ kept_all old.spare.capacity old.spare.items c.in-Some.checkpoint c.requires.room)
    (omega (arith, c.saturating_sub-pages.ensures, c.len-count.ensures.len)) told
