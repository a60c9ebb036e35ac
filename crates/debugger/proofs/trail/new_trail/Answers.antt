use Rattle.std.proofs.Common.{◌<◌, ◌∙◌, ap, refl, arith, length, ◌++◌, ◌∷◌, []}
use Rattle.debugger.proofs.Noting.{kept_all}
use Rattle.debugger.proofs.Trails.{begun, renamed}
use Rattle.debugger.proofs.trail.new_trail.Goals as goal

pub returns-clause-history : goal.returns-clause-history
returns-clause-history c =
    let empty = ap (λ b. b.items) c.in-Ok-with_capacity.ensures in
    let few = ap (λ b. length b.items) c.in-Ok-with_capacity.ensures in
    let size = ap (λ b. b.capacity) c.in-Ok-with_capacity.ensures in
    let room : length c.in-Ok-with_capacity.kept.items < c.in-Ok-with_capacity.kept.capacity = omega (arith, few, size) in
    renamed 1024 _ _ _ _ _ _ (ap (λ b. b.items) c.push_back.ensures.items
    ∙ kept_all c.in-Ok-with_capacity.kept.capacity c.in-Ok-with_capacity.kept.items c.save.new.into room
    ∙ (λ i. empty i ++ c.save.ensures i ∷ [])) (ap (λ b. b.items) c.in-Ok.ensures) refl (begun 1024 c.args.machine.now)
