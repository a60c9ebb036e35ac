use Rattle.std.proofs.Common.{◌∙◌, sym}
use Rattle.json_messages.proofs.Fronts.{header_found, header_step}
use Rattle.json_messages.specs.Messages.{ends_header}
use Rattle.json_messages.proofs.front.header_len.Goals as goal

pub returns-then-starts_with-clause-len : goal.returns-then-starts_with-clause-len
unfolding ends_header
returns-then-starts_with-clause-len c = sym (c.loop-index.invariant
    ∙ header_found c.args.bytes.now c.loop-index.index c.loop-index-test.true (sym c.if-starts_with.ensures.value))

pub loop-index-preserved : goal.loop-index-preserved
unfolding ends_header
loop-index-preserved c = c.loop-index.invariant ∙ header_step c.args.bytes.now c.loop-index.index c.loop-index-test.true (sym c.if-starts_with.ensures.value)
