use Rattle.std.proofs.Common.{◌∙◌, slice_get, ap}
use Rattle.std.proofs.lemmas.Result.{IfOk-weaker}
use Rattle.fault_notes.proofs.GivenSteps.{first_is_told, none_is_told}
use Rattle.fault_notes.proofs.given.told_source_faults.Goals as goal

pub returns-clause-first : goal.returns-clause-first
returns-clause-first c = IfOk-weaker c.told_of.result _ _ (λ told is fault has. ap (λ faults. slice_get faults 0) is
    ∙ first_is_told _ _ fault (ap (λ faults. slice_get faults 0) c.deref-2.ensures.value ∙ c.in_ok-faults.ensures.first fault has)) c.told_of.ensures

pub returns-clause-none : goal.returns-clause-none
returns-clause-none c = IfOk-weaker c.told_of.result _ _ (λ told is image denotes. is
    ∙ none_is_told _ _ (c.deref-2.ensures.value ∙ c.in_ok-faults.ensures.none image denotes)) c.told_of.ensures
