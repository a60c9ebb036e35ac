use Rattle.std.proofs.Common.{◌≡◌, ◌++◌, drop}
use Rattle.std.specs.Prelude.{string_bytes}
use Rattle.dap_session.specs.Told.{characters}
use Rattle.dap_session.proofs.telling.output_since.Given as goal

abbrev pub invariant-loop-index : goal.invariant-loop-index
invariant-loop-index l = string_bytes l.text ++ characters (drop l.index l.session.current.bus.out) ≡ characters (drop l.from l.session.current.bus.out)
