use Rattle.std.proofs.Common.{sym, ◌∙◌, arith}
use Rattle.word_info.proofs.Behinds.{all_counted}
use Rattle.word_info.proofs.behind.records_behind.Goals as goal

pub returns : goal.returns
returns c = sym (all_counted c.args.form c.loop-rest.has_ended c.loop-rest.count c.loop-rest.rest.now (omega arith)) ∙ c.loop-rest.invariant.counted
