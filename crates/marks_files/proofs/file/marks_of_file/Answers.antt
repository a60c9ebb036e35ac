use Rattle.std.proofs.Common.{◌≡◌, refl, arith, ap, true-eqb}
use Rattle.marks_files.specs.MarksFile.{marks_file}
use Rattle.marks_files.specs.Views.{marks_view}
use Rattle.marks_files.proofs.Lines.{done, one_more, refused}
use Rattle.marks_files.proofs.file.marks_of_file.Goals as goal

pub loop-rest-init : goal.loop-rest-init
unfolding marks_file
loop-rest-init c = record { found = refl; room = omega arith }

pub loop-rest-preserved : goal.loop-rest-preserved
loop-rest-preserved c = record {
  found = one_more c.args.profile c.loop-rest.number c.loop-rest.rest.now c.next_line.result.0.now c.next_line.result.1.now
      (marks_view c.loop-rest.marks) (marks_view c.take_line.new.marks) _
      c.next_line.ensures.cut c.in_ok-take_line.ensures c.loop-rest.invariant.found;
  room = omega (arith, c.next_line.ensures.shorter, c.loop-rest.invariant.room);
}

pub returns-in_err-take_line : goal.returns-in_err-take_line
returns-in_err-take_line c =
    refused c.args.profile c.loop-rest.number c.loop-rest.rest.now c.next_line.result.0.now c.next_line.result.1.now (marks_view c.loop-rest.marks) _
    c.in_err-take_line.field-0.0 c.from_residual.result c.next_line.ensures.cut c.in_err-take_line.ensures c.loop-rest.invariant.found c.from_residual.ensures.1

pub returns : goal.returns
returns c = done c.args.profile c.loop-rest.number c.loop-rest.rest.now (marks_view c.loop-rest.marks) _ (true-eqb _ 0 c.loop-rest-test.ensures)
    c.loop-rest.invariant.found
