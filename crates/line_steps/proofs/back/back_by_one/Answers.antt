use Rattle.std.proofs.Common.{◌≡◌, ◌≤◌, length, Result, Ok, Err, sym, ◌∙◌, arith}
use Rattle.std.specs.Prelude.{⊤, OnOk, IfErr}
use Rattle.model.specs.Session.{Session}
use Rattle.model.specs.Back.{back_of, without_last}
use Rattle.model.specs.declared.session_fault.SessionFault.{SessionFault}
use Rattle.law_sessions.proofs.Backs.{back_of-held}
use Rattle.line_steps.proofs.back.back_by_one.Goals as goal

gone : (r : Result ⊤ SessionFault) (s t : Session) → 1 ≤ length s.earlier
    → OnOk r (back_of 1 s ≡ Ok t) → IfErr r (λ f. (back_of 1 s ≡ Err f) × (t ≡ s))
    → t ≡ without_last 1 s
gone (Ok done) s t held ok err = let same : Ok t ≡ Ok (without_last 1 s) = sym ok ∙ back_of-held 1 s held in cc
gone (Err fault) s t held ok err = let same : Err fault ≡ Ok (without_last 1 s) = sym err.0 ∙ back_of-held 1 s held in cc

pub returns : goal.returns
returns c = gone c.back.result c.args.session.now c.back.new.self (omega arith) c.back.ensures.ok c.back.ensures.err
