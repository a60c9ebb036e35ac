use Rattle.std.proofs.Common.{◌≡◌, drop}
use Rattle.model.specs.State.{State}
use Rattle.t65_runner.specs.Passes.{given_all}
use Rattle.t65_runner.specs.Start.{IsSince}
use Rattle.t65_runner.proofs.passes.given_all.Given as goal

abbrev pub invariant-loop-item : goal.invariant-loop-item
invariant-loop-item l = record {
  left : given_all l.values (drop l.item-index l.items) l.session ≡ given_all l.values l.items l.fn.session;
  since : (s : State) → IsSince s l.fn.session → IsSince s l.session;
  stops : l.session.breaks ≡ l.fn.session.breaks;
}
