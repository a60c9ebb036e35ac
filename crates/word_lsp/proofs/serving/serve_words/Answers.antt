use Rattle.std.proofs.Common.{◌∙◌, ap, arith}
use Rattle.arguments.specs.Statuses.{status_of}
use Rattle.arguments.specs.declared.refusal.Refusal.{Refusal}
use Rattle.word_lsp.proofs.Ended.{cut_off, ended, large, most}
use Rattle.word_lsp.proofs.serving.serve_words.Goals as goal

-- ---- the map is wrong

pub returns-in-Err-clause-session : goal.returns-in-Err-clause-session
returns-in-Err-clause-session g c other =
    absurd (other (c.refuse.ensures.status ∙ ap (λ (r : Refusal). status_of r) c.from.ensures))

-- ---- the session came to its end

pub returns-in-Ok-attend-clause-session : goal.returns-in-Ok-attend-clause-session
returns-in-Ok-attend-clause-session g c other =
    ended _ _ _ _ _ _ c.in-Ok-attend.status c.in-Ok.ensures.map c.in-Ok-attend.ensures.session

pub returns-in-Ok-attend-clause-wrong : goal.returns-in-Ok-attend-clause-wrong
returns-in-Ok-attend-clause-wrong g c two = absurd (omega (arith, two, c.in-Ok-attend.ensures.small))

-- ---- a fault cut it short

pub returns-clause-session : goal.returns-clause-session
returns-clause-session g c other =
    cut_off _ _ _ _ _ _ c.cut_off.result c.in-Err-attend.fault c.in-Ok.ensures.map c.cut_off.ensures c.in-Err-attend.ensures.session

pub returns-clause-wrong : goal.returns-clause-wrong
returns-clause-wrong g c two = absurd (omega (arith, two, c.cut_off.ensures, large c.in-Err-attend.fault))

pub returns-clause-status : goal.returns-clause-status
returns-clause-status g c = omega (arith, c.cut_off.ensures, most c.in-Err-attend.fault)

pub returns-clause-quiet : goal.returns-clause-quiet
returns-clause-quiet g c low = absurd (omega (arith, low, c.cut_off.ensures, large c.in-Err-attend.fault))

pub returns-clause-unread : goal.returns-clause-unread
returns-clause-unread g c two = absurd (omega (arith, two, c.cut_off.ensures, large c.in-Err-attend.fault))

pub returns-clause-untouched : goal.returns-clause-untouched
returns-clause-untouched g c two = absurd (omega (arith, two, c.cut_off.ensures, large c.in-Err-attend.fault))
