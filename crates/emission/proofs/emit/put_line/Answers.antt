use Rattle.std.proofs.Common.{sym, ◌∙◌}
use Rattle.model.specs.Names.{number_in}
use Rattle.line_parts.specs.KeptLines.{placed_line_of}
use Rattle.emission.proofs.Gathers.{put_right, put_faulty}
use Rattle.emission.proofs.BytesFitSize.{line_room}
use Rattle.emission.proofs.emit.put_line.Goals as goal

pub returns-in-Some-clause-exact : goal.returns-in-Some-clause-exact
returns-in-Some-clause-exact c =
    put_faulty c.args.map.now (number_in c.args.names.now) c.args.image.now (placed_line_of c.args.line.now) c.gather.new.gathered c.in-Some.kind
    c.in_ok-gather.ensures
    (sym c.kind.ensures ∙ c.in-Some.is)

pub store-requires : goal.store-requires
store-requires c =
    rw c.bytes.ensures (line_room c.args.map.now (number_in c.args.names.now) c.args.image.now (placed_line_of c.args.line.now) c.gather.new.gathered
    c.in_ok-gather.ensures
    (sym c.kind.ensures ∙ c.in-None.is))

pub returns-in-None-clause-exact : goal.returns-in-None-clause-exact
returns-in-None-clause-exact c =
    rw (c.store.ensures, c.bytes.ensures) (put_right c.args.map.now (number_in c.args.names.now) c.args.image.now (placed_line_of c.args.line.now)
    c.gather.new.gathered c.in_ok-gather.ensures
    (sym c.kind.ensures ∙ c.in-None.is))
