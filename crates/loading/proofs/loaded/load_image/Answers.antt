use Rattle.loading.proofs.Ends.{memory_image_residual}
use Rattle.loading.proofs.loaded.load_image.Goals as goal

pub returns-in_err-start_image-clause-refused : goal.returns-in_err-start_image-clause-refused
returns-in_err-start_image-clause-refused g c =
    memory_image_residual c.args.said c.args.omits c.args.map c.in_err-start_image.field-0.0 c.from_residual-in_err-start_image.result
    c.in_err-start_image.ensures.refused c.from_residual-in_err-start_image.ensures.1
