use Rattle.std.proofs.Common.{◌≡◌, IfOk, List, None, Some, map, refl, subst}
use Rattle.std.proofs.lemmas.Result.{IfOk-weaker}
use Rattle.dap_messages.specs.declared.request.SourceBreakpoint.{SourceBreakpoint}
use Rattle.dap_messages.specs.SeenAnswers.{answer_view, breakpoints_body}
use Rattle.dap_views.proofs.Listing.{with_both}
use Rattle.dap_views.specs.Answered.{answer_elsewhere}
use Rattle.dap_views.proofs.listed.set_source.Goals as goal

pub returns-in-Some-clause-sets : goal.returns-in-Some-clause-sets
returns-in-Some-clause-sets g c = with_both c.set_lines.result _ _ (λ v sets held. (Some c.in-Some.file, c.in-Some.ensures, (sets, held)))
    c.set_lines.ensures.sets c.set_lines.ensures.held

pub returns-in-None-clause-sets : goal.returns-in-None-clause-sets
returns-in-None-clause-sets g c =
    let told = subst (λ (all : List SourceBreakpoint). IfOk c.none_set.result (λ v. answer_view v ≡ breakpoints_body (map answer_elsewhere all)))
    c.as_slice.ensures.value c.none_set.ensures in
    IfOk-weaker c.none_set.result _ _ (λ v is. (None, c.in-None.ensures, (refl, refl, is))) told
