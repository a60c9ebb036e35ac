use Rattle.loading.proofs.Ends.{source_ends}
use Rattle.loading.proofs.loaded.assembled.Goals as goal

pub returns-in_err-assemble-clause-refused : goal.returns-in_err-assemble-clause-refused
returns-in_err-assemble-clause-refused c =
    source_ends c.args.map.now c.args.source.now c.in_err-assemble.field-0.0 c.from_residual.result c.in_err-assemble.ensures.refused c.from_residual.ensures.1
