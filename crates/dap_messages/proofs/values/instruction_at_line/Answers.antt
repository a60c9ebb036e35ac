use Rattle.dap_messages.proofs.values.instruction_at_line.Goals as goal

pub returns : goal.returns
returns c =
    let place = c.build-place.ensures _ (c.word.ensures _ c.new.ensures) in
    let row = c.word-3.ensures _ (c.word-2.ensures _ (c.text.ensures _ _ c.new-2.ensures c.reference.ensures)) in
    c.build.ensures _ (c.member.ensures _ _ (c.count.ensures _ row) place)
