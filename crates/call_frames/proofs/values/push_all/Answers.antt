use Rattle.std.proofs.Common.{◌∙◌, ◌+◌, ◌-◌, ◌++◌, ap, arith}
use Rattle.call_frames.proofs.Bytes.{bytes_more}
use Rattle.call_frames.specs.Values.{byte_behind_blank}
use Rattle.call_frames.proofs.values.push_all.Goals as goal

pub loop-preserved : goal.loop-preserved
loop-preserved c =
    bytes_more byte_behind_blank c.args.session.now.current.bus.memory c.loop.at (c.args.count - c.loop.counter) (c.args.count - (c.loop.counter + 1))
    c.loop.text.items c.push_behind_blank.new.text.items _ (omega (arith, c.loop-test.true))
    (c.in_ok-push_behind_blank.ensures ∙ ap (λ b. c.loop.text.items ++ byte_behind_blank b) c.peek.ensures.value) c.loop.invariant
