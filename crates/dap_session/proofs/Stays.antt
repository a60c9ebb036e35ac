-- What a refused request leaves.
use Rattle.std.proofs.Common.{refl}
use Rattle.dap_session.specs.Console.{ShowsIfRefused}
use Rattle.dap_session.specs.Refusals.{IfRefused}
use Rattle.dap_session.specs.declared.fault.Fault.{Fault}
use Rattle.dap_session.specs.declared.fault.Fault.TheVariants as fault
use Rattle.mon_session.specs.declared.mon_state.MonState.{MonState}

pub shows_same : (f : Fault) (d : MonState) → ShowsIfRefused f d d
shows_same (fault.Refused words) d = (refl, refl, refl, refl, refl)
shows_same fault.OutOfMemory d = tt

pub refused_so : (f : Fault) (Why : Type 0) → Why → IfRefused f Why
refused_so (fault.Refused words) Why why = why
refused_so fault.OutOfMemory Why why = tt

pub refused_by_more : (f : Fault) (Why Other : Type 0) → (Why → Other) → IfRefused f Why → IfRefused f Other
refused_by_more (fault.Refused words) Why Other so why = so why
refused_by_more fault.OutOfMemory Why Other so why = tt
