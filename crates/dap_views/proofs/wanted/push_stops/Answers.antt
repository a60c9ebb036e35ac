use Rattle.std.proofs.Common.{◌∙◌, ◌++◌, ◌<◌, ℕ, List, ap, append-nil, arith, length, map, sym}
use Rattle.std.proofs.lemmas.List.{take_all}
use Rattle.std.specs.Option.{option_to_list}
use Rattle.dap_views.proofs.Kept.{given_more, mapped_more}
use Rattle.dap_views.specs.Found.{Stop, stop_at, stop_view, stops_at}
use Rattle.dap_views.proofs.wanted.push_stops.Goals as goal

pub loop-address-init : goal.loop-address-init
loop-address-init c = record {
  stops = sym (append-nil (map stop_view c.args.stops.now.items));
  set = c.new-set.ensures.items;
}

pub loop-address-preserved : goal.loop-address-preserved
loop-address-preserved c =
    let find = λ (a : ℕ). option_to_list (stop_at c.args.mon.now.places c.args.mon.now.session.current.regs.pc c.args.condition.now a) in
    let within : c.loop-address.address-index < length c.args.addresses.now = omega (arith, c.loop-address-test.true) in
    record {
      stops = given_more find c.args.addresses.now c.loop-address.address-index _ _ _ _ within
          c.in_ok-push_if_read.ensures.stops c.loop-address.invariant.stops;
      set = mapped_more find (λ (s : Stop). s.0) c.args.addresses.now c.loop-address.address-index _ _ _ within c.in_ok-push_if_read.ensures.set
          c.loop-address.invariant.set;
    }

pub returns-clause-stops : goal.returns-clause-stops
returns-clause-stops c = c.loop-address.invariant.stops
    ∙ ap (λ (all : List ℕ). map stop_view c.args.stops.now.items
    ++ stops_at c.args.mon.now.places c.args.mon.now.session.current.regs.pc c.args.condition.now all)
    (take_all c.loop-address.address-index c.args.addresses.now (omega (arith, c.loop-address-test.false)))

pub returns-clause-addresses : goal.returns-clause-addresses
returns-clause-addresses c = c.loop-address.invariant.set
    ∙ ap (λ (all : List ℕ). map (λ (s : Stop). s.0) (stops_at c.args.mon.now.places c.args.mon.now.session.current.regs.pc c.args.condition.now all))
    (take_all c.loop-address.address-index c.args.addresses.now (omega (arith, c.loop-address-test.false)))
