use Rattle.lsp_answers.proofs.Behind.{all_behind, directive_item, next_behind, none_behind}
use Rattle.lsp_answers.proofs.completing.with_directives.Goals as goal

pub loop-directive-init : goal.loop-directive-init
loop-directive-init c ds has = none_behind ds c.args.items has

pub loop-directive-preserved : goal.loop-directive-preserved
loop-directive-preserved c ds has =
    next_behind directive_item ds _ c.loop-directive.directive-index _ _ c.loop-directive-test.true
    (c.with-all.ensures _ _ (c.loop-directive.invariant ds has) c.directive_item.ensures)

pub returns : goal.returns
returns c ds has = all_behind directive_item ds _ c.loop-directive.directive-index c.loop-directive.all c.loop-directive-test.false
    (c.loop-directive.invariant ds has)
