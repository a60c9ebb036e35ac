use Rattle.std.proofs.Common.{◌∙◌, List, ℕ, IfOk, subst}
use Rattle.fault_notes.specs.Blocks.{IsToldText}
use Rattle.fault_notes.specs.Given.{told_faults_of}
use Rattle.mos65_c.proofs.faults.told_of.Goals as goal

pub returns : goal.returns
returns c =
    let map = c.args.map.now in
    subst (λ (t : List ℕ). IfOk c.all_faults_text.result
    (λ told. IsToldText c.args.name.now t map.profile (told_faults_of map t) told.items))
    (c.deref.ensures.value ∙ c.in_ok-text.ensures.cleaned) c.all_faults_text.ensures
