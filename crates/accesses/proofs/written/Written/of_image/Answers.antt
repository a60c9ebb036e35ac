use Rattle.std.proofs.Common.{rules, ◌∙◌, ◌≡◌, ap, map}
use Rattle.accesses.specs.Writing.{is_unmarked}
use Rattle.accesses.proofs.Bytes.{mark_of, marks_in}
use Rattle.accesses.proofs.written.Written.of_image.Goals as goal

pub returns : goal.returns
returns c =
    let made : c.in_ok-marks.marks.items ≡ map mark_of c.args.image.now = search rules in
    ap (map is_unmarked) made ∙ marks_in c.args.image.now
