use Rattle.std.proofs.Common.{◌∙◌, ℕ, List, ap, arith, refl}
use Rattle.model.specs.TextLines.{lines_of}
use Rattle.t65_reports.specs.Lines.{lines_left}
use Rattle.std.specs.Option.{option_map}
use Rattle.std.specs.Prelude.{Option}
use Rattle.t65_reports.specs.Junit.{ReportTold}
use Rattle.t65_runner.specs.Parts.{lines_seen}
use Rattle.t65_suites.specs.Prepared.{ground_in}
use Rattle.t65_suites.specs.Suites.{suite_view}
use Rattle.word_test.specs.Covered.{told_in}
use Rattle.word_test.specs.Tested.{rows_reported, rows_text}
use Rattle.word_test.specs.declared.tally.Tally.{Tally}
use Rattle.word_test.proofs.Facts.{stopped}
use Rattle.word_test.proofs.Walk.{all_counted, all_left, all_reported, left_begun, no_test_left, none_left, one_counted, one_reported, test_begun, test_told}
use Rattle.word_test.proofs.rows.run_each.Goals as goal

pub loop-index-init : goal.loop-index-init
loop-index-init g c =
    let text : ℕ → List (List ℕ) → List ℕ = λ next lines. rows_text c.args.telling (ground_in c.args.prepared.now) (suite_view c.args.suite)
    c.args.tally.count next lines (lines_seen c.args.tests.now) in
    let reported : ℕ → List (List ℕ) → Option ReportTold = λ next lines.
    option_map (rows_reported (ground_in c.args.prepared.now) (suite_view c.args.suite) next lines (lines_seen c.args.tests.now))
    (told_in c.args.reports.now.junit) in
    record {
      back = c.requires.start;
      told = all_left _ _ _ (ap (λ (n : ℕ). text n (lines_left c.new-lines.result)) c.new-lines.ensures.first
          ∙ ap (text 1) (c.new-lines.ensures.lines ∙ ap lines_of c.deref.ensures.value));
      reported = ap (λ (n : ℕ). reported n (lines_left c.new-lines.result)) c.new-lines.ensures.first
          ∙ ap (reported 1) (c.new-lines.ensures.lines ∙ ap lines_of c.deref.ensures.value);
      counted = refl;
    }

pub returns-in_err-told-clause-written : goal.returns-in_err-told-clause-written
returns-in_err-told-clause-written g c = stopped _ _ _ c.from_residual.ensures.0 (left_begun _ _ _ _ c.loop-index.invariant.told)

pub returns-in_err-write_told-clause-written : goal.returns-in_err-write_told-clause-written
returns-in_err-write_told-clause-written g c =
    let l = c.loop-index in
    stopped _ _ _ c.from_residual-in_err-write_told.ensures.0
    (test_begun c.args.telling (ground_in c.args.prepared.now) (suite_view c.args.suite) c.args.tests.now l.index _ _ _ l.so_far.count
    c.saturating_add-number.result c.number-line.result l.lines.next (lines_left l.lines)
    c.index-tests-index.result c.index-tests-index.result c.name.result.now c.walk_to-text.result.now _ _
    c.loop-index-test.true c.index-tests-index.is l.invariant.told c.in_err-write_told.ensures.written c.in_ok-told.ensures.tap c.name.ensures
    c.number-line.ensures c.saturating_add-number.ensures
    c.walk_to-text.ensures.line)

pub loop-index-preserved : goal.loop-index-preserved
loop-index-preserved g c =
    let l = c.loop-index in
    let bench = ground_in c.args.prepared.now in
    let suite = suite_view c.args.suite in
    record {
      back = c.in_ok-told.ensures.back;
      told = test_told c.args.telling bench suite c.args.tests.now l.index _ _ _ l.so_far.count _ c.saturating_add-number.result c.number-line.result
          l.lines.next _ (lines_left l.lines) _
          c.index-tests-index.result c.index-tests-index.result c.name.result.now c.walk_to-text.result.now _ _
          c.loop-index-test.true c.index-tests-index.is l.invariant.told c.in_ok-write_told.ensures.written c.in_ok-told.ensures.tap c.name.ensures
          c.number-line.ensures c.saturating_add-number.ensures
          c.walk_to-text.ensures.line c.walk_to-text.ensures.rest c.walk_to-text.ensures.next (ap (λ (t : Tally). t.count) c.tally_after-so_far.ensures);
      reported = one_reported c.args.telling bench suite c.args.tests.now l.index _ _ _ c.number-line.result l.lines.next _ (lines_left l.lines) _
          c.in_ok-told.told.passes
          c.index-tests-index.result c.index-tests-index.result c.name.result.now c.walk_to-text.result.now _
          c.loop-index-test.true c.index-tests-index.is c.in_ok-write_told.ensures.report c.in_ok-told.ensures.passes c.in_ok-told.ensures.junit
          c.name.ensures c.number-line.ensures
          c.walk_to-text.ensures.line c.walk_to-text.ensures.rest c.walk_to-text.ensures.next l.invariant.reported;
      counted = one_counted c.args.telling bench suite c.args.tests.now l.index l.so_far _ _ c.in_ok-told.told.passes c.points.result
          c.index-tests-index.result c.index-tests-index.result
          c.loop-index-test.true c.index-tests-index.is c.in_ok-told.ensures.passes c.points.ensures c.tally_after-so_far.ensures l.invariant.counted;
    }

pub returns-clause-written : goal.returns-clause-written
returns-clause-written g c =
    none_left _ _ _ _ c.loop-index.invariant.told (no_test_left c.args.telling (ground_in c.args.prepared.now) (suite_view c.args.suite)
    c.args.tests.now c.loop-index.index _ _ _ (omega (arith, c.loop-index-test.false)))

pub returns-clause-report : goal.returns-clause-report
returns-clause-report g c = all_reported c.args.telling (ground_in c.args.prepared.now) (suite_view c.args.suite) c.args.tests.now c.loop-index.index
    _ _ c.loop-index.lines.next (lines_left c.loop-index.lines) (omega (arith, c.loop-index-test.false)) c.loop-index.invariant.reported

pub returns-clause-tally : goal.returns-clause-tally
returns-clause-tally g c = all_counted c.args.telling (ground_in c.args.prepared.now) (suite_view c.args.suite) c.args.tests.now c.loop-index.index _
    _ (omega (arith, c.loop-index-test.false)) c.loop-index.invariant.counted
