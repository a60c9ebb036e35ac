use Rattle.std.proofs.Common.{◌≡◌, ℕ, Result, Ok, Err, ap}
use Rattle.std.specs.Prelude.{⊤, OnOk, IfErr}
use Rattle.model.specs.Session.{Session}
use Rattle.model.specs.Back.{states}
use Rattle.model.specs.Breakpoints.{break_cleared}
use Rattle.model.specs.declared.session_fault.SessionFault.{SessionFault}
use Rattle.mon_runs.proofs.Apart.{cleared-other}
use Rattle.mon_runs.proofs.runs.clear_break.Goals as goal

cleared : (r : Result ⊤ SessionFault) (a : ℕ) (s t : Session)
    → OnOk r (break_cleared a s ≡ Ok t) → IfErr r (λ f. (break_cleared a s ≡ Err f) × (t ≡ s))
    → states t ≡ states s
cleared (Ok done) a s t ok err = ap states (cleared-other a s t ok).1
cleared (Err fault) a s t ok err = ap states err.1

pub returns-clause-states : goal.returns-clause-states
returns-clause-states c = cleared c.clear_break.result c.args.address c.args.session.now c.clear_break.new.self c.clear_break.ensures.ok
    c.clear_break.ensures.err
