use Rattle.std.specs.Prelude.{slice_get}
use Rattle.dap_messages.proofs.Shown.{item_as}
use Rattle.dap_views.specs.Answered.{answer_by}
use Rattle.dap_views.proofs.listed.answer.Goals as goal

pub returns : goal.returns
returns c = item_as c.answer_at.result _ _ (λ i. answer_by c.args.session.now c.args.id (c.shown-line.ensures i) (c.as_str.ensures.value i)
    (c.as_slice-addresses.ensures.value i) (slice_get (c.as_slice-addresses.ensures.value i) 0)) c.answer_at.ensures
