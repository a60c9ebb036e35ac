use Rattle.std.proofs.Common.{◌∙◌, ◌+◌, ◌++◌, [], append-nil, ap, arith, cond, length, nat_lt, refl, sym}
use Rattle.std.specs.List.{flat_map}
use Rattle.mon_dispatch.specs.LookTexts.{found_line, stands_at}
use Rattle.std.proofs.lemmas.Result.{IfOk-weaker}
use Rattle.source_map.specs.Lines.{PlacesView}
use Rattle.mon_dispatch.proofs.Found.{all_found, count_more, many_found, none_found, text_more}
use Rattle.mon_dispatch.proofs.finding.find.Goals as goal

pub loop-address-init : goal.loop-address-init
loop-address-init c =
    let mon = c.args.mon.now in
    let m = mon.session.current.bus.memory in
    let none = none_found m c.args.bytes.now in
    record {
      shows = (refl, refl, refl, refl, refl);
      count = ap length (sym none);
      few = omega arith;
      text = sym (append-nil mon.text.items) ∙ ap (λ l. mon.text.items ++ flat_map (found_line mon.places.names) l) (sym none);
    }

pub loop-address-preserved : goal.loop-address-preserved
loop-address-preserved c =
    let m = c.args.mon.now.session.current.bus.memory in
    let bytes = c.args.bytes.now in
    let i = c.loop-address.address in
    let shows = c.loop-address.invariant.shows in
    let shown = c.show_if_found.ensures.shows in
    let grown = c.in_ok-count.ensures.count ∙ (λ k. c.loop-address.count + cond (stands_at (shows.0 k).current.bus.memory bytes i) 1 0) in
    let said = c.in_ok-count.ensures.text ∙ (λ k. c.loop-address.mon.text.items
    ++ cond (stands_at (shows.0 k).current.bus.memory bytes i)
    (cond (nat_lt c.loop-address.count 16) (found_line c.loop-address.mon.places.names i) []) []) in
    record {
      shows = (shown.0 ∙ shows.0, shown.1 ∙ shows.1, shown.2 ∙ shows.2, shown.3 ∙ shows.3, shown.4 ∙ shows.4);
      count = count_more m bytes i c.loop-address.count c.in_ok-count.count c.loop-address.invariant.count grown;
      few = c.if-count-gt-MOST_FOUND.false;
      text = text_more m bytes c.args.mon.now.places.names c.loop-address.mon.places.names i c.loop-address.count c.in_ok-count.count _ _ _
          c.loop-address.invariant.text (ap (λ (p : PlacesView). p.names) shows.3) grown c.if-count-gt-MOST_FOUND.false said;
    }

pub returns-then-count-gt-MOST_FOUND-clause-text :
    goal.returns-then-count-gt-MOST_FOUND-clause-text
returns-then-count-gt-MOST_FOUND-clause-text c =
    let m = c.args.mon.now.session.current.bus.memory in
    let bytes = c.args.bytes.now in
    let i = c.loop-address.address in
    let shows = c.loop-address.invariant.shows in
    let grown = c.in_ok-count.ensures.count ∙ (λ k. c.loop-address.count + cond (stands_at (shows.0 k).current.bus.memory bytes i) 1 0) in
    let said = c.in_ok-count.ensures.text ∙ (λ k. c.loop-address.mon.text.items
    ++ cond (stands_at (shows.0 k).current.bus.memory bytes i)
    (cond (nat_lt c.loop-address.count 16) (found_line c.loop-address.mon.places.names i) []) []) in
    IfOk-weaker c.say.result _ _ (λ _. many_found m bytes c.args.mon.now.places.names c.loop-address.mon.places.names (ap (λ (p : PlacesView). p.names) shows.3)
    i c.loop-address.count c.in_ok-count.count _ _ _ _
    (omega (arith, c.loop-address-test.true, c.memory_size-address-end.ensures.size))
    c.loop-address.invariant.text c.loop-address.invariant.count c.loop-address.invariant.few grown c.if-count-gt-MOST_FOUND.true said)
    c.say.ensures.text

pub returns-clause-text : goal.returns-clause-text
returns-clause-text c =
    all_found _ _ c.args.mon.now.places.names _ refl c.loop-address.address c.loop-address.count _ _
    (omega (arith, c.loop-address-test.false, c.memory_size-address-end.ensures.size))
    c.loop-address.invariant.text c.loop-address.invariant.count c.loop-address.invariant.few c.if-count-eq0.false
