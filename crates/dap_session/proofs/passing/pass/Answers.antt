use Rattle.std.proofs.Common.{◌∙◌, add-one, arith, inl, inr, map, sym}
use Rattle.dap_messages.specs.Messages.{said_of}
use Rattle.dap_session.proofs.LogRuns.{passes_more, passes_none}
use Rattle.dap_session.proofs.passing.pass.Goals as goal

pub loop-init : goal.loop-init
loop-init c = passes_none c.args.further c.args.client.now (map said_of c.args.messages.items)

pub loop-preserved : goal.loop-preserved
loop-preserved c =
    rw add-one (passes_more c.loop.counter c.args.further c.args.client.now (map said_of c.args.messages.items) c.loop.client
    (map said_of c.loop.said.items) c.go_past.new.client (map said_of c.in_ok-more.more.items) c.loop.invariant
    (sym c.has_ended.ensures ∙ c.if-has_ended.false) c.in_ok-more.ensures)

pub returns-then-has_ended : goal.returns-then-has_ended
returns-then-has_ended c = (c.loop.counter, c.loop.invariant, inl (sym c.has_ended.ensures ∙ c.if-has_ended.true))

pub returns : goal.returns
returns c = (c.loop.counter, c.loop.invariant, inr (omega (arith, c.loop-test.false)))
