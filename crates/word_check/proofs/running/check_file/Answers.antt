use Rattle.std.proofs.Common.{arith, refl}
use Rattle.word_check.specs.CommandLine.{check_view}
use Rattle.word_check.proofs.OneMore.{kept_back, kept_status}
use Rattle.word_check.proofs.running.check_file.Goals as goal

pub returns-in-Err-clause-tried : goal.returns-in-Err-clause-tried
returns-in-Err-clause-tried g c = kept_back (check_view c.args.words.now) c.args.file.now c.in-Err.fault _ _ _ c.tell_advised.result
    c.in-Err.ensures.refused c.tell_advised.ensures.status refl refl

pub returns-in-Err-clause-within : goal.returns-in-Err-clause-within
returns-in-Err-clause-within g c = let low = kept_status c.in-Err.fault c.in-Err.ensures.refused in omega (arith, low.1, c.tell_advised.ensures.status)

pub returns-in-Err-clause-quiet : goal.returns-in-Err-clause-quiet
returns-in-Err-clause-quiet g c = λ least. let low = kept_status c.in-Err.fault c.in-Err.ensures.refused in
    absurd (omega (arith, low.0, least, c.tell_advised.ensures.status))
