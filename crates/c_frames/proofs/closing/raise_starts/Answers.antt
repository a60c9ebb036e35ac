use Rattle.std.proofs.Common.{ap, sym}
use Rattle.std.proofs.lemmas.List.{get_or-map}
use Rattle.c_frames.proofs.Passes.{begun_further}
use Rattle.c_frames.specs.declared.rises.Depth.TheVariants.{Known}
use Rattle.c_frames.proofs.closing.raise_starts.Goals as goal

pub loop-function-preserved : goal.loop-function-preserved
loop-function-preserved c =
    begun_further c.args.functions.now c.args.depths.now.items c.loop-function.depths.items c.raise-has_changed.new.table.items c.loop-function.function-index
    _ _ c.loop-function.has_changed c.raise-has_changed.result c.loop-function-test.true
    (sym (get_or-map (λ function. function.start) c.args.functions.now c.loop-function.function-index _ 0 c.loop-function-test.true))
    (ap (λ rise. Known rise) c.no_rise.ensures) c.loop-function.invariant c.raise-has_changed.ensures
