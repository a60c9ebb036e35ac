use Rattle.std.proofs.Common.{◌∙◌, ◌++◌, ℕ, List, ap, append_assoc}
use Rattle.std.proofs.lemmas.Result.{on_ok_weaker}
use Rattle.dap_views.specs.Frames.{where_words}
use Rattle.mon_texts.specs.declared.wording.TheConstants.{INTERRUPTED_AT}
use Rattle.dap_views.proofs.frames.push_interrupted.Goals as goal

pub returns : goal.returns
returns c =
    let there = where_words c.args.places.now c.args.address in
    on_ok_weaker c.push_where.result (λ is. is ∙ ap (λ (before : List ℕ). before ++ there) c.in_ok-push_text.ensures.ok
    ∙ append_assoc c.args.text.now.items INTERRUPTED_AT.now there) c.push_where.ensures
