use Rattle.std.proofs.Common.{List, ap, arith, ◌+◌, ◌++◌, ◌∙◌}
use Rattle.warnings.specs.Views.{placed_view, placed_views}
use Rattle.warnings.specs.Warnings.{is_alike, known, warnings_with, with_capitals}
use Rattle.warnings.specs.declared.placed_line.PlacedLine.{PlacedLine}
use Rattle.warnings.proofs.Looking.{done, goes_on, rest_is}
use Rattle.warnings.proofs.all_lines.push_each_line.Goals as goal

pub loop-one-preserved : goal.loop-one-preserved
loop-one-preserved c = record {
  exact = goes_on (known c.args.profile c.args.names.now c.args.used.now c.args.reaches.now (placed_views c.args.lines.now)) c.loop-one.warnings.items
      c.push_line.new.warnings.items c.loop-one.one-index (c.loop-one.number + 1)
      c.loop-one.capitals c.note_capitals.new.capitals c.args.lines.now c.one-item.result c.in_ok-alike.alike _ c.loop-one-test.true c.one-item.is
      (omega (arith, c.loop-one.invariant.count))
      (c.in_ok-alike.ensures.alike ∙ ap (λ n. is_alike c.loop-one.capitals n) c.name_in.ensures)
      (c.in_ok-alike.ensures.noted ∙ ap (λ n. with_capitals n c.loop-one.capitals) c.name_in.ensures)
      (c.in_ok-push_line.ensures
      ∙ ap (λ (x : List PlacedLine). c.loop-one.warnings.items
      ++ warnings_with (known c.args.profile c.args.names.now c.args.used.now c.args.reaches.now (placed_views c.args.lines.now))
      (c.loop-one.number + 1) c.in_ok-alike.alike (placed_view c.one-item.result) (placed_views x))
      (rest_is (c.loop-one.number + 1) c.args.lines.now))
      c.loop-one.invariant.exact;
  count = omega (arith, c.loop-one.invariant.count);
}

pub returns : goal.returns
returns c =
    done (known c.args.profile c.args.names.now c.args.used.now c.args.reaches.now (placed_views c.args.lines.now)) c.loop-one.warnings.items
    c.loop-one.one-index c.loop-one.capitals c.args.lines.now _ (omega (arith, c.loop-one-test.false))
    c.loop-one.invariant.exact
