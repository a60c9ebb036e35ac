use Rattle.std.proofs.Common.{◌≤◌, length, subst, sym}
use Rattle.std.proofs.lemmas.Result.{IfOk-from_err}
use Rattle.json_messages.specs.Taken.{Held}
use Rattle.json_messages.proofs.Stays.{front_within}
use Rattle.json_messages.proofs.incoming.Incoming.take.Goals as goal

pub slice_bounds-from_slice-count : goal.slice_bounds-from_slice-count
slice_bounds-from_slice-count c = (front_within c.args.self.now.bytes c.args.start c.args.end c.requires).0

pub slice_bounds-from_slice-count-2 : goal.slice_bounds-from_slice-count-2
slice_bounds-from_slice-count-2 c = rw (c.deref-2.ensures.value)
    (subst (λ (h : Held). c.args.end ≤ length h.bytes) (sym c.self.view_is) (front_within c.args.self.now.bytes c.args.start c.args.end c.requires).1)

pub returns-in_err-body-clause-taken : goal.returns-in_err-body-clause-taken
returns-in_err-body-clause-taken c = IfOk-from_err _ _ c.from_residual.ensures.0

pub returns-clause-memory : goal.returns-clause-memory
returns-clause-memory c = tt
