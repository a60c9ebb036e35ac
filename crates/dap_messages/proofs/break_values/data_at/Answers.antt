use Rattle.dap_messages.proofs.break_values.data_at.Goals as goal

pub returns : goal.returns
returns c =
    let accesses = c.build-accesses.ensures _ (c.with-3.ensures _ _
    (c.with-2.ensures _ _ (c.with.ensures _ _ c.new.ensures c.try_from_str.ensures) c.try_from_str-2.ensures) c.try_from_str-3.ensures) in
    c.build.ensures _ (c.text-2.ensures _ _ (c.text.ensures _ _ (c.member.ensures _ _ c.new-2.ensures accesses) c.data_id.ensures) c.range_text.ensures)
