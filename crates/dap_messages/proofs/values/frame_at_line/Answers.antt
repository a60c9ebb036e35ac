use Rattle.dap_messages.proofs.values.frame_at_line.Goals as goal

pub returns : goal.returns
returns c =
    c.build.ensures _ (c.member.ensures _ _ (c.word.ensures _
    (c.count-3.ensures _ (c.text.ensures _ _ (c.count-2.ensures _ (c.count.ensures _ c.new.ensures)) c.reference.ensures))) c.source.ensures)
