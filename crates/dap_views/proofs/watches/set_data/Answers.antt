use Rattle.std.proofs.Common.{◌∙◌, List, ap, arith, map, sym}
use Rattle.std.proofs.lemmas.Result.{IfOk-weaker}
use Rattle.dap_messages.specs.SeenAnswers.{breakpoints_body}
use Rattle.dap_views.proofs.Watching.{set_done, set_more}
use Rattle.dap_messages.specs.declared.request.DataBreakpoint.{DataBreakpoint}
use Rattle.dap_views.specs.Watches.{none_watched, told_of, watched_of, watches_in, with_all}
use Rattle.dap_views.proofs.watches.set_data.Goals as goal

pub loop-byte-preserved : goal.loop-byte-preserved
loop-byte-preserved c =
    let inv = c.loop-byte.invariant in
    let kept = c.set_wanted.ensures.kept in
    record {
      watched = set_more c.as_slice-all.result.now c.loop-byte.byte-index _ _ (watched_of c.loop-byte.mon) _
          (omega (arith, c.loop-byte-test.true)) c.in_ok-set_wanted.ensures.watched inv.watched;
      kept = (kept.0 ∙ inv.kept.0, kept.1 ∙ inv.kept.1, kept.2 ∙ inv.kept.2, kept.3 ∙ inv.kept.3);
    }

pub returns-in_err-set_wanted-clause-kept : goal.returns-in_err-set_wanted-clause-kept
returns-in_err-set_wanted-clause-kept c =
    let inv = c.loop-byte.invariant in
    let kept = c.set_wanted.ensures.kept in
    (kept.0 ∙ inv.kept.0, kept.1 ∙ inv.kept.1, kept.2 ∙ inv.kept.2, kept.3 ∙ inv.kept.3)

pub returns-clause-sets : goal.returns-clause-sets
returns-clause-sets c =
    let list = c.as_slice-all.result.now in
    let set = set_done list c.loop-byte.byte-index _ (watched_of c.loop-byte.mon) (omega (arith, c.loop-byte-test.false)) c.loop-byte.invariant.watched in
    let same = ap (λ (all : List DataBreakpoint). with_all (watches_in all) (none_watched (watched_of c.args.mon.now))) c.as_slice-all.ensures.value in
    IfOk-weaker c.all_told-told.result _ _ (λ v h. sym set ∙ same) c.all_told-told.ensures

pub returns-clause-answer : goal.returns-clause-answer
returns-clause-answer c =
    let watches = c.loop-byte.mon.stops.watches.items in
    IfOk-weaker c.all_told-told.result _ _
    (λ v h. h ∙ ap (λ (all : List DataBreakpoint). breakpoints_body (map (told_of watches) all)) c.as_slice-all.ensures.value) c.all_told-told.ensures
