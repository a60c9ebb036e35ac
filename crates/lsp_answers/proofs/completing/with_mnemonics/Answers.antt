use Rattle.std.proofs.Common.{◌++◌, List, arith, map, subst}
use Rattle.json_messages.specs.ValueLists.{HasValues}
use Rattle.lsp_answers.proofs.Behind.{all_behind, next_behind, none_behind}
use Rattle.lsp_answers.specs.Completion.{mnemonic_item}
use Rattle.model.specs.declared.instruction.Mnemonic.{Mnemonic}
use Rattle.lsp_answers.proofs.completing.with_mnemonics.Goals as goal

pub loop-mnemonic-init : goal.loop-mnemonic-init
loop-mnemonic-init c ds has = none_behind ds c.args.items has

pub loop-mnemonic-preserved : goal.loop-mnemonic-preserved
loop-mnemonic-preserved c ds has =
    next_behind mnemonic_item ds c.mnemonics_in-mnemonic-items.result.now c.loop-mnemonic.mnemonic-index _ _ (omega (arith, c.loop-mnemonic-test.true))
    (c.with-all.ensures _ _ (c.loop-mnemonic.invariant ds has) c.mnemonic_item.ensures)

pub returns : goal.returns
returns c ds has =
    subst (λ (ms : List Mnemonic). HasValues (ds ++ map mnemonic_item ms) c.loop-mnemonic.all) c.mnemonics_in-mnemonic-items.ensures
    (all_behind mnemonic_item ds c.mnemonics_in-mnemonic-items.result.now c.loop-mnemonic.mnemonic-index c.loop-mnemonic.all
    (omega (arith, c.loop-mnemonic-test.false)) (c.loop-mnemonic.invariant ds has))
