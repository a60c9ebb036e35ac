use Rattle.std.proofs.Common.{◌∙◌, ap, ap₂, subst, List, map}
use Rattle.std.specs.Io.KnownBytes.{Appends}
use Rattle.model.specs.TextLines.{lines_of}
use Rattle.model.specs.Writers.{AppendsFront}
use Rattle.model.proofs.Written.{front_after, front_more, front_none}
use Rattle.t65_reader.specs.RowText.{SeenLine, line_view}
use Rattle.t65_reader.specs.declared.row.Line.{Line}
use Rattle.t65_runner.specs.Parts.{lines_seen, tests_of}
use Rattle.t65_suites.specs.Prepared.{ground_in}
use Rattle.t65_suites.specs.Suites.{suite_view}
use Rattle.word_test.specs.Tested.{rows_text, sum_text, tally_rows}
use Rattle.word_test.specs.declared.tally.Tally.{Tally}
use Rattle.word_test.proofs.Facts.{front_whole, stopped}
use Rattle.word_test.proofs.files.run_tested.Goals as goal

pub returns-in_err-tests-clause-begun : goal.returns-in_err-tests-clause-begun
returns-in_err-tests-clause-begun g c = stopped _ _ _ c.from_residual.ensures.0 (front_none _ _)

pub returns-in_err-begin_suite-clause-begun : goal.returns-in_err-begin_suite-clause-begun
returns-in_err-begin_suite-clause-begun g c = stopped _ _ _ c.from_residual-in_err-begin_suite.ensures.0 (front_none _ _)

pub returns-in_err-begin_suite-2-clause-begun : goal.returns-in_err-begin_suite-2-clause-begun
returns-in_err-begin_suite-2-clause-begun g c = stopped _ _ _ c.from_residual-in_err-begin_suite-2.ensures.0 (front_none _ _)

pub returns-in_err-tally-clause-begun : goal.returns-in_err-tally-clause-begun
returns-in_err-tally-clause-begun g c =
    let p = c.args.prepared.now in
    let old = g.O.Write.contents c.args.output.now in
    let new = g.O.Write.contents c.run_rows.new.output in
    let tests = ap lines_seen c.deref-2.ensures.value ∙ (c.in_ok-tests.ensures ∙ ap (λ (r : List Line). tests_of (map line_view r)) c.deref.ensures.value) in
    let text = ap₂ (λ (t : Tally) (r : List SeenLine). rows_text c.args.telling (ground_in p) (suite_view c.args.suite) t.count 1
    (lines_of p.text.items) r) c.fresh_tally-first.ensures tests in
    stopped _ _ _ c.from_residual-in_err-tally.ensures.0 (front_more old new _ _ (subst (AppendsFront old new) text c.in_err-tally.ensures.written))

pub returns-in_err-end_suite-clause-begun : goal.returns-in_err-end_suite-clause-begun
returns-in_err-end_suite-clause-begun g c =
    let p = c.args.prepared.now in
    let old = g.O.Write.contents c.args.output.now in
    let new = g.O.Write.contents c.run_rows.new.output in
    let tests = ap lines_seen c.deref-2.ensures.value ∙ (c.in_ok-tests.ensures ∙ ap (λ (r : List Line). tests_of (map line_view r)) c.deref.ensures.value) in
    let text = ap₂ (λ (t : Tally) (r : List SeenLine). rows_text c.args.telling (ground_in p) (suite_view c.args.suite) t.count 1
    (lines_of p.text.items) r) c.fresh_tally-first.ensures tests in
    stopped _ _ _ c.from_residual-in_err-end_suite.ensures.0 (front_whole old new _ _ (subst (Appends old new) text c.in_ok-tally.ensures.written))

pub returns-in_err-end_suite-2-clause-begun : goal.returns-in_err-end_suite-2-clause-begun
returns-in_err-end_suite-2-clause-begun g c =
    let p = c.args.prepared.now in
    let old = g.O.Write.contents c.args.output.now in
    let new = g.O.Write.contents c.run_rows.new.output in
    let tests = ap lines_seen c.deref-2.ensures.value ∙ (c.in_ok-tests.ensures ∙ ap (λ (r : List Line). tests_of (map line_view r)) c.deref.ensures.value) in
    let text = ap₂ (λ (t : Tally) (r : List SeenLine). rows_text c.args.telling (ground_in p) (suite_view c.args.suite) t.count 1
    (lines_of p.text.items) r) c.fresh_tally-first.ensures tests in
    stopped _ _ _ c.from_residual-in_err-end_suite-2.ensures.0 (front_whole old new _ _ (subst (Appends old new) text c.in_ok-tally.ensures.written))

pub returns-in_err-write_sum-clause-begun : goal.returns-in_err-write_sum-clause-begun
returns-in_err-write_sum-clause-begun g c =
    let p = c.args.prepared.now in
    let old = g.O.Write.contents c.args.output.now in
    let ran = g.O.Write.contents c.run_rows.new.output in
    let new = g.O.Write.contents c.write_sum.new.output in
    let tests = ap lines_seen c.deref-2.ensures.value ∙ (c.in_ok-tests.ensures ∙ ap (λ (r : List Line). tests_of (map line_view r)) c.deref.ensures.value) in
    let text = ap₂ (λ (t : Tally) (r : List SeenLine). rows_text c.args.telling (ground_in p) (suite_view c.args.suite) t.count 1
    (lines_of p.text.items) r) c.fresh_tally-first.ensures tests in
    let all = c.in_ok-tally.ensures.tally ∙ ap₂ (λ (t : Tally) (r : List SeenLine). tally_rows (ground_in p) t r) c.fresh_tally-first.ensures tests in
    stopped _ _ _ c.from_residual-in_err-write_sum.ensures.0 (front_after old ran new _ _ (subst (Appends old ran) text c.in_ok-tally.ensures.written)
    (subst (λ (t : Tally). AppendsFront ran new (sum_text c.args.telling (suite_view c.args.suite) t.score)) all c.in_err-write_sum.ensures))
