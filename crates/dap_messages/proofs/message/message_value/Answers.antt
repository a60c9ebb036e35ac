use Rattle.dap_messages.proofs.message.message_value.Goals as goal

pub returns-in-Done : goal.returns-in-Done
returns-in-Done c = rw c.in-Done.is (c.build.ensures _ (c.flag.ensures _
    (c.count.ensures _ (c.member.ensures _ _ c.response.ensures c.body.ensures))))

pub returns-in-Refused : goal.returns-in-Refused
returns-in-Refused c = rw (c.in-Refused.is, ← c.as_str.ensures.value)
    (c.build-in-Refused.ensures _ (c.flag-in-Refused.ensures _
    (c.count-in-Refused.ensures _ (c.word.ensures _ (c.member-in-Refused.ensures _ _ c.response-in-Refused.ensures c.nothing.ensures)))))

pub returns-in-Event : goal.returns-in-Event
returns-in-Event c =
    rw (c.in-Event.is, ← c.word-in-Event.ensures)
    (c.build-in-Event.ensures _ (c.word-in-Event-3.ensures _ (c.count-in-Event.ensures _
    (c.word-in-Event-2.ensures _ (c.member-in-Event.ensures _ _ c.new.ensures c.body-in-Event.ensures)))))
