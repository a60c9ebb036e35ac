use Rattle.dap_messages.proofs.variable_values.local_at.Goals as goal

pub returns : goal.returns
returns c =
    let named = c.word-2.ensures _ (c.text.ensures _ _ (c.word.ensures _ c.new.ensures) c.reference.ensures) in
    let hinted = c.member.ensures _ _ named c.read_only.ensures in
    c.build.ensures _ (c.count.ensures _ (c.word-3.ensures _ hinted))
