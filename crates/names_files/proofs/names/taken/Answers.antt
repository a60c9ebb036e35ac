use Rattle.std.proofs.Common.{◌≡◌, arith, ap, true-eqb}
use Rattle.names_files.proofs.Lines.{done, lines_left, one_more}
use Rattle.names_files.specs.NamesFile.{Taken}
use Rattle.names_files.specs.Views.{taken_view}
use Rattle.names_files.proofs.names.taken.Goals as goal

pub loop-rest-init : goal.loop-rest-init
loop-rest-init c = record {
  found = ap (lines_left c.args.form c.args.profile c.args.file.now) c.no_lines-lines.ensures;
  room =
      let none : (taken_view c.no_lines-lines.result).left_out ≡ 0 = ap (λ (t : Taken). t.left_out) c.no_lines-lines.ensures in
      omega arith;
  told =
      let none : (taken_view c.no_lines-lines.result).told ≡ 0 = ap (λ (t : Taken). t.told) c.no_lines-lines.ensures in
      omega arith;
}

pub loop-rest-preserved : goal.loop-rest-preserved
loop-rest-preserved c = record {
  found = one_more c.args.form c.args.profile c.loop-rest.rest.now c.next_line.result.0.now c.next_line.result.1.now (taken_view c.loop-rest.lines)
      (taken_view c.push_one.new.lines) _
      c.next_line.ensures.cut c.in_ok-push_one.ensures.text c.loop-rest.invariant.found;
  room = omega (arith, c.next_line.ensures.shorter, c.in_ok-push_one.ensures.most, c.loop-rest.invariant.room);
  told = omega (arith, c.next_line.ensures.shorter, c.in_ok-push_one.ensures.told, c.loop-rest.invariant.told);
}

pub returns : goal.returns
returns c = done c.args.form c.args.profile c.loop-rest.rest.now (taken_view c.loop-rest.lines) _ (true-eqb _ 0 c.loop-rest-test.ensures)
    c.loop-rest.invariant.found
