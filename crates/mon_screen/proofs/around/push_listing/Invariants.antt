use Rattle.std.proofs.Common.{◌≡◌, ◌++◌, ◌-◌}
use Rattle.mon_screen.specs.Around.{marked_line, next_address, several}
use Rattle.mon_screen.proofs.around.push_listing.Given as goal

abbrev pub invariant-loop : goal.invariant-loop
invariant-loop l = l.text.items ++ several (l.count - l.counter) (marked_line l.session.current l.places) (next_address l.session.current l.places)
    l.address ≡ l.initial.text.items ++ several l.count (marked_line l.session.current l.places) (next_address l.session.current l.places) l.first
