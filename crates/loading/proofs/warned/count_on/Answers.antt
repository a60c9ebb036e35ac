use Rattle.std.proofs.Common.{List, ap, inl, inr, length, refl, ◌∙◌}
use Rattle.warnings.specs.declared.kinds.Warning.{Warning}
use Rattle.loading.proofs.warned.count_on.Goals as goal

pub returns-in-Ok : goal.returns-in-Ok
returns-in-Ok c = inl (c.length_of.ensures ∙ ap (λ (ws : List Warning). length ws) (c.as_slice.ensures.value ∙ c.in-Ok.ensures))

pub returns-in-Err : goal.returns-in-Err
returns-in-Err c = inr refl
