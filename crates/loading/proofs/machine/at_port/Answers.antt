use Rattle.std.proofs.Common.{◌+◌, ap}
use Rattle.arguments.specs.Asked.{file_view}
use Rattle.arguments.specs.OtherFiles.{others_view}
use Rattle.loading.proofs.Joins.{port_ends}
use Rattle.loading.proofs.machine.at_port.Goals as goal

pub returns : goal.returns
returns c = port_ends (file_view c.args.words.now) (others_view c.args.others) c.args.map.now c.args.image.now c.port.result (c.port-2.result + 3)
    c.free_base.result
    c.requires.map c.port.ensures.value (ap (λ n. n + 3) c.port-2.ensures.value) c.requires.joined c.requires.met c.requires.kept c.free_base.ensures
