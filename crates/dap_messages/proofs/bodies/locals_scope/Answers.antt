use Rattle.std.proofs.Common.{ap}
use Rattle.dap_messages.proofs.Shown.{value_as}
use Rattle.dap_messages.specs.Bodies.{locals_scope}
use Rattle.dap_messages.proofs.bodies.locals_scope.Goals as goal

pub returns : goal.returns
returns c =
    let built = c.build.ensures _ (c.count.ensures _ (c.word-2.ensures _ (c.word.ensures _ (c.flag.ensures _ c.new.ensures)))) in
    value_as c.build.result (locals_scope c.from.result) (locals_scope c.args.frame) (ap locals_scope c.from.ensures) built
