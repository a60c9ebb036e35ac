use Rattle.std.proofs.Common.{sym, ◌∙◌}
use Rattle.line_parts.specs.KeptLines.{placed_line_of}
use Rattle.model.specs.Names.{number_in}
use Rattle.source_faults.specs.Views.{made_of}
use Rattle.source_faults.proofs.ValuesOfLines.{fault_image, moved_image, moved_kind, put_fault, put_image, put_kind}
use Rattle.source_faults.proofs.judging.judge_kept.Goals as goal

pub returns-then-moved-clause-kind : goal.returns-then-moved-clause-kind
returns-then-moved-clause-kind c =
    moved_kind c.args.map.now (number_in c.args.names.now) c.args.image.now c.args.moved (placed_line_of c.args.line.now) c.in_ok-kind.kind
    c.but_of_place.result c.if-moved.true c.in_ok-kind.ensures
    c.but_of_place.ensures

pub returns-then-moved-clause-image : goal.returns-then-moved-clause-image
returns-then-moved-clause-image c = moved_image (number_in c.args.names.now) c.args.image.now c.args.moved (placed_line_of c.args.line.now)
    c.but_of_place.result c.if-moved.true

pub returns-in-Ok-clause-kind : goal.returns-in-Ok-clause-kind
returns-in-Ok-clause-kind c =
    rw c.if-moved.false (sym (put_kind c.args.map.now (number_in c.args.names.now) c.args.image.now c.put_line.new.image
    (placed_line_of c.args.line.now) c.in-Ok.ensures.exact))

pub returns-in-Ok-clause-image : goal.returns-in-Ok-clause-image
returns-in-Ok-clause-image c =
    rw c.if-moved.false (put_image c.args.map.now (number_in c.args.names.now) c.args.image.now c.put_line.new.image (placed_line_of c.args.line.now)
    c.in-Ok.ensures.exact)

pub returns-in-Err-Kind-clause-kind : goal.returns-in-Err-Kind-clause-kind
returns-in-Err-Kind-clause-kind c =
    let met = rw c.in-Err-Kind.field-0-is at c.in-Err-Kind.ensures.exact in
    rw c.if-moved.false (sym (put_fault c.args.map.now (number_in c.args.names.now) c.args.image.now (placed_line_of c.args.line.now) c.in-Err-Kind.kind met))

pub returns-in-Err-Kind-clause-image : goal.returns-in-Err-Kind-clause-image
returns-in-Err-Kind-clause-image c =
    c.in-Err-Kind.ensures.same ∙ sym (fault_image (number_in c.args.names.now) (made_of c.args.image.now c.args.moved)
    (placed_line_of c.args.line.now) c.in-Err-Kind.kind)
