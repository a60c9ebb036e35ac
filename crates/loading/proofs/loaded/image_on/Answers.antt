use Rattle.loading.proofs.Ends.{memory_image_residual}
use Rattle.loading.proofs.loaded.image_on.Goals as goal

pub returns-in_err-without_fill-in-Some-clause-refused : goal.returns-in_err-without_fill-in-Some-clause-refused
returns-in_err-without_fill-in-Some-clause-refused g c =
    memory_image_residual c.args.said c.args.omits c.args.map.now c.in_err-without_fill-in-Some.field-0.0 c.from_residual-in_err-without_fill-in-Some.result
    c.in_err-without_fill-in-Some.ensures.refused c.from_residual-in_err-without_fill-in-Some.ensures.1
