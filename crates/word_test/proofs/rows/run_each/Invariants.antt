use Rattle.std.proofs.Common.{◌≡◌, drop}
use Rattle.model.specs.TextLines.{lines_of}
use Rattle.t65_reports.specs.Lines.{lines_left}
use Rattle.t65_runner.specs.Start.{fresh}
use Rattle.std.specs.Option.{option_map}
use Rattle.word_test.specs.Covered.{told_in}
use Rattle.word_test.specs.Tested.{rows_reported, rows_text, tally_rows}
use Rattle.t65_suites.specs.Prepared.{ground_in}
use Rattle.t65_suites.specs.Suites.{suite_view}
use Rattle.word_test.proofs.Walk.{TextLeft}
use Rattle.word_test.proofs.rows.run_each.Given as goal
use Rattle.t65_runner.specs.Parts.{lines_seen}

abbrev pub invariant-loop-index : goal.invariant-loop-index
invariant-loop-index g l = record {
  back : l.session ≡ fresh l.prepared.map l.prepared.assembly.image;
  told : TextLeft (g.O.Write.contents l.fn.output) (g.O.Write.contents l.output)
      (rows_text l.telling (ground_in l.prepared) (suite_view l.suite) l.so_far.count l.lines.next (lines_left l.lines) (lines_seen (drop l.index l.tests)))
      (rows_text l.telling (ground_in l.prepared) (suite_view l.suite) l.fn.tally.count 1 (lines_of l.prepared.text.items) (lines_seen l.tests));
  reported : option_map (rows_reported (ground_in l.prepared) (suite_view l.suite) l.lines.next (lines_left l.lines)
      (lines_seen (drop l.index l.tests))) (told_in l.reports.junit)
      ≡ option_map (rows_reported (ground_in l.prepared) (suite_view l.suite) 1 (lines_of l.prepared.text.items) (lines_seen l.tests))
      (told_in l.fn.reports.junit);
  counted : tally_rows (ground_in l.prepared) l.so_far (lines_seen (drop l.index l.tests)) ≡ tally_rows (ground_in l.prepared) l.fn.tally (lines_seen l.tests);
}
