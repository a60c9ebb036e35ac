use Rattle.std.proofs.Common.{◌∙◌, ◌++◌, ap, arith, drop}
use Rattle.std.specs.Option.{unwrap_or}
use Rattle.std.specs.Prelude.{encode_utf8}
use Rattle.dap_session.proofs.Outputs.{all_appended}
use Rattle.dap_session.specs.Told.{characters}
use Rattle.mon_texts.proofs.Output.{shown_next}
use Rattle.dap_session.proofs.telling.output_since.Goals as goal

pub loop-index-preserved : goal.loop-index-preserved
loop-index-preserved c = shown_next encode_utf8 c.args.session.now.current.bus.out c.loop-index.index _ _ _ _
    (omega arith) (c.unwrap_or.ensures ∙ ap (λ o. unwrap_or o 0) c.output_at.ensures)
    c.in_ok-push.ensures.bytes c.loop-index.invariant

pub loop-index-init : goal.loop-index-init
loop-index-init c = ap (λ bs. bs ++ characters (drop c.args.from c.args.session.now.current.bus.out)) c.new-text.ensures.bytes

pub returns : goal.returns
returns c = all_appended encode_utf8 c.args.session.now.current.bus.out c.loop-index.index _ _
    (omega (arith, c.loop-index-test.false, c.output_len-index-end.ensures)) c.loop-index.invariant
