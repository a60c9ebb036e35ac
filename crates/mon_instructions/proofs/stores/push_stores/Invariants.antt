use Rattle.std.proofs.Common.{◌≡◌, ◌++◌, drop}
use Rattle.mon_instructions.specs.Stores.{stores_text}
use Rattle.mon_instructions.proofs.stores.push_stores.Given as goal

abbrev pub invariant-loop-address : goal.invariant-loop-address
invariant-loop-address l = l.text.items ++ stores_text l.session.current.bus (drop l.address-index l.addresses) ≡ l.initial.text.items
    ++ stores_text l.session.current.bus l.addresses
