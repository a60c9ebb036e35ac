use Rattle.std.proofs.Common.{◌∙◌, List, ℕ, IfOk, subst}
use Rattle.warning_notes.specs.Blocks.{IsWarnedText}
use Rattle.warnings.specs.Warnings.{warnings_of}
use Rattle.mos65_c.proofs.faults.warned_of.Goals as goal

pub returns : goal.returns
returns c =
    let map = c.args.map.now in
    subst (λ (t : List ℕ). IfOk c.warned_text.result
    (λ told. IsWarnedText c.args.name.now t (warnings_of map t) told.items))
    (c.deref.ensures.value ∙ c.in_ok-text.ensures.cleaned) c.warned_text.ensures
