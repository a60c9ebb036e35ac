use Rattle.std.proofs.Common.{◌∙◌, ap, arith}
use Rattle.std.proofs.lemmas.List.{take_all}
use Rattle.assembler.specs.Assembly.{with_others}
use Rattle.assembler.proofs.MoreNames.{one_more}
use Rattle.assembler.proofs.assembly.Assembly.with_names.Goals as goal

pub loop-index-preserved : goal.loop-index-preserved
loop-index-preserved c = one_more c.args.names.now c.loop-index.index c.args.self c.loop-index.all _ c.loop-index.invariant c.in_ok-all.ensures

pub returns : goal.returns
returns c = c.loop-index.invariant ∙ ap (λ ds. with_others ds c.args.self) (take_all c.loop-index.index c.args.names.now (omega arith))
