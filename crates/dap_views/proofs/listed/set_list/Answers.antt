use Rattle.std.proofs.Common.{◌∙◌, List, ap}
use Rattle.std.proofs.lemmas.Result.{IfOk-weaker}
use Rattle.dap_messages.specs.declared.listed.Placed.{Placed}
use Rattle.dap_desk.specs.Breaks.{all_cleared, all_set, place_of}
use Rattle.dap_messages.specs.SeenAnswers.{breakpoints_body}
use Rattle.dap_views.specs.Answered.{answers_of, placed_of}
use Rattle.dap_views.specs.declared.wanted.Wanted.{Wanted}
use Rattle.dap_views.proofs.listed.set_list.Goals as goal

pub returns-clause-place : goal.returns-clause-place
returns-clause-place c =
    let stops = c.args.list.stops.items in
    let set = c.in_ok-replace.ensures.place ∙ ap (λ (old : List Placed). all_set stops (all_cleared old (place_of c.args.mon.now)))
    c.as_slice-2.ensures.value in
    IfOk-weaker c.answers.result _ _ (λ v h. set) c.answers.ensures

pub returns-clause-held : goal.returns-clause-held
returns-clause-held c =
    IfOk-weaker c.answers.result _ _ (λ v h. c.in_ok-placed.ensures ∙ ap (placed_of c.args.file c.args.first) c.as_slice.ensures.value) c.answers.ensures

pub returns-clause-answer : goal.returns-clause-answer
returns-clause-answer c =
    IfOk-weaker c.answers.result _ _
    (λ v h. h ∙ ap (λ (told : List Wanted). breakpoints_body (answers_of c.replace.new.mon.session c.args.counting c.args.first told))
    c.as_slice-3.ensures.value) c.answers.ensures
