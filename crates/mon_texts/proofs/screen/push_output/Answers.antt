use Rattle.std.proofs.Common.{◌∙◌, ap, arith}
use Rattle.std.specs.Option.{unwrap_or}
use Rattle.mon_texts.specs.Screen.{output_text}
use Rattle.mon_texts.proofs.Output.{shown_next}
use Rattle.mon_texts.proofs.screen.push_output.Goals as goal

pub loop-index-preserved : goal.loop-index-preserved
loop-index-preserved c = shown_next output_text c.args.session.now.current.bus.out c.loop-index.index _ _ _ _
    (omega arith) (c.unwrap_or.ensures ∙ ap (λ o. unwrap_or o 0) c.output_at.ensures)
    c.in_ok-push_shown.ensures c.loop-index.invariant
