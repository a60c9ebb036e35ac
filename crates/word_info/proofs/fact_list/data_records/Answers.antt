use Rattle.word_info.proofs.Semicolons.{counted}
use Rattle.word_info.proofs.fact_list.data_records.Goals as goal

pub returns-clause-records : goal.returns-clause-records
returns-clause-records c = λ cells tape. counted c.args.text.now cells c.loop-byte.count c.saturating_sub.result c.loop-byte.byte-index
    c.loop-byte-test.false c.loop-byte.invariant.count c.saturating_sub.ensures tape
