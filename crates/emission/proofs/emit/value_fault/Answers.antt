use Rattle.std.proofs.Common.{◌∙◌, ap}
use Rattle.model.specs.Names.{number_in}
use Rattle.line_parts.specs.KeptLines.{placed_line_of}
use Rattle.emission.specs.Gathering.{Gathering}
use Rattle.emission.proofs.Gathers.{line_is}
use Rattle.emission.proofs.emit.value_fault.Goals as goal

pub returns : goal.returns
returns c =
    c.kind.ensures
    ∙ ap (λ (g : Gathering). g.kind) (c.in_ok-gather.ensures
    ∙ line_is c.args.map.now (number_in c.args.names.now) c.args.image.now (placed_line_of c.args.line.now))
