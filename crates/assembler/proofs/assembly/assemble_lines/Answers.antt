use Rattle.std.proofs.Common.{◌≤◌, inr, arith, length}
use Rattle.model.specs.Layout.{Context}
use Rattle.model.specs.Source.{most_bytes}
use Rattle.assembler.specs.FoundLines.{found_of}
use Rattle.assembler.proofs.Verdicts.{verdict_large, layout_answer, verdict_right, value_answer}
use Rattle.assembler.proofs.assembly.assemble_lines.Goals as goal

pub returns-then-source-gt-SOURCE_SIZE-clause-exact : goal.returns-then-source-gt-SOURCE_SIZE-clause-exact
returns-then-source-gt-SOURCE_SIZE-clause-exact c = inr (verdict_large c.args.map.now c.args.source.now (omega (arith, c.if-source-gt-SOURCE_SIZE.true)))

pub returns-in-Err-clause-exact : goal.returns-in-Err-clause-exact
returns-in-Err-clause-exact c =
    let small : length c.args.source.now ≤ most_bytes = omega (arith, c.if-source-gt-SOURCE_SIZE.false) in
    layout_answer c.args.map.now c.args.source.now c.in-Err.fault small (rw c.profile.ensures at c.in-Err.ensures.found)

pub returns-in-Err-make_image-clause-exact : goal.returns-in-Err-make_image-clause-exact
returns-in-Err-make_image-clause-exact c =
    let small : length c.args.source.now ≤ most_bytes = omega (arith, c.if-source-gt-SOURCE_SIZE.false) in
    let all : Context = record { profile = c.args.map.now.profile; address = c.in-Ok.ensures.found.0; names = c.lay_out.new.symbols } in
    value_answer c.args.map.now c.args.source.now (found_of c.in-Ok.laid.lines) all c.in-Err-make_image.fault small
    (rw c.profile.ensures at c.in-Ok.ensures.found.1) (rw c.lines.ensures at c.in-Err-make_image.ensures.exact)

pub returns-in-Ok-from_slice-clause-exact : goal.returns-in-Ok-from_slice-clause-exact
returns-in-Ok-from_slice-clause-exact c =
    let small : length c.args.source.now ≤ most_bytes = omega (arith, c.if-source-gt-SOURCE_SIZE.false) in
    let all : Context = record { profile = c.args.map.now.profile; address = c.in-Ok.ensures.found.0; names = c.lay_out.new.symbols } in
    rw c.into_spans-spans.ensures
    (verdict_right c.args.map.now c.args.source.now (found_of c.in-Ok.laid.lines) all c.in-Ok-make_image.image small
    (rw c.profile.ensures at c.in-Ok.ensures.found.1) (rw c.lines.ensures at c.in-Ok-make_image.ensures.exact))
