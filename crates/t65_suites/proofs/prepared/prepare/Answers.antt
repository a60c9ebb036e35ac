use Rattle.std.proofs.Common.{◌∙◌, refl, subst, sym}
use Rattle.model.specs.TextLines.{lines_of}
use Rattle.t65_suites.specs.Ends.{EndsFile}
use Rattle.t65_suites.specs.HeadText.{head_view}
use Rattle.t65_suites.specs.Suites.{suite_view}
use Rattle.t65_suites.proofs.Ends.{map_ends, passed_on, placed_ends, rows_end, unread_ends}
use Rattle.t65_suites.proofs.Ready.{ready}
use Rattle.t65_suites.proofs.prepared.prepare.Goals as goal

pub returns-in_err-text-clause-refused : goal.returns-in_err-text-clause-refused
returns-in_err-text-clause-refused g c = passed_on c.from_residual.result (suite_view c.args.suite).reading c.in_err-text.field-0.0
    c.from_residual.ensures.1 c.in_err-text.ensures.refused

pub returns-in_err-opened-clause-refused : goal.returns-in_err-opened-clause-refused
returns-in_err-opened-clause-refused g c =
    passed_on c.from_residual-in_err-opened.result (suite_view c.args.suite).reading c.in_err-opened.field-0.0 c.from_residual-in_err-opened.ensures.1
    c.in_err-opened.ensures.refused

pub returns-in_err-map-clause-refused : goal.returns-in_err-map-clause-refused
returns-in_err-map-clause-refused g c =
    passed_on c.from_residual-in_err-map.result (suite_view c.args.suite).reading c.in_err-map.field-0.0 c.from_residual-in_err-map.ensures.1
    (map_ends c.deref.result.now (head_view c.in_ok-opened.opened.head) c.in_ok-opened.opened.next (lines_of c.in_ok-opened.opened.rest.now)
    c.in_err-map.field-0.0
    c.in_ok-opened.ensures.head c.in_err-map.ensures.none.0 c.in_err-map.ensures.none.1)

pub returns-in_err-path-clause-refused : goal.returns-in_err-path-clause-refused
returns-in_err-path-clause-refused g c =
    passed_on c.from_residual-in_err-path.result (suite_view c.args.suite).reading c.in_err-path.field-0.0 c.from_residual-in_err-path.ensures.1
    c.in_err-path.ensures.refused

pub returns-in-Ok-rows_in-clause-prepared : goal.returns-in-Ok-rows_in-clause-prepared
returns-in-Ok-rows_in-clause-prepared g c = ready _ c.args.steps (suite_view c.args.suite) c.deref.result.now (head_view c.in_ok-opened.opened.head)
    c.in_ok-opened.opened.next (lines_of c.in_ok-opened.opened.rest.now) _ _
    c.in_ok-opened.ensures.head c.deref.ensures.value c.in_ok-map.ensures.map (c.deref-2.ensures ∙ c.in_ok-path.ensures.path) c.in-Ok.ensures.program
    c.in-Ok.ensures.places c.in-Ok.ensures.functions c.in-Ok-rows_in.ensures.rows refl

pub returns-in-Err-rows_in-clause-refused : goal.returns-in-Err-rows_in-clause-refused
returns-in-Err-rows_in-clause-refused g c =
    unread_ends (suite_view c.args.suite).reading c.worth_of-points.result _ c.in-Err-rows_in.fault _ c.unread.ensures.fault c.unread.ensures.points
    (rows_end (suite_view c.args.suite).reading c.deref.result.now (head_view c.in_ok-opened.opened.head) c.in_ok-opened.opened.next
    (lines_of c.in_ok-opened.opened.rest.now) _ _ _ c.args.steps _ _ c.in-Err-rows_in.fault c.worth_of-points.result
    c.in_ok-opened.ensures.head c.in-Ok.ensures.program c.in-Ok.ensures.places c.in_ok-map.ensures.map c.in-Ok.ensures.functions
    c.in-Err-rows_in.ensures.refused c.worth_of-points.ensures)

pub returns-in-Err-clause-refused : goal.returns-in-Err-clause-refused
returns-in-Err-clause-refused g c =
    let ends = placed_ends (suite_view c.args.suite).reading c.deref.result.now (head_view c.in_ok-opened.opened.head)
    c.in_ok-opened.opened.next (lines_of c.in_ok-opened.opened.rest.now) c.in_ok-path.path _ c.in-Err.fault c.worth_of-points.result
    c.in_ok-opened.ensures.head c.deref-2.ensures c.in-Err.ensures.refused c.worth_of-points.ensures in
    subst (λ f. EndsFile (suite_view c.args.suite).reading c.worth_of-points.result f) (sym c.fault_at.ensures) ends
