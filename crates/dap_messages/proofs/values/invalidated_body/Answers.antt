use Rattle.dap_messages.proofs.values.invalidated_body.Goals as goal

pub returns : goal.returns
returns c =
    let areas = c.build-areas.ensures _ (c.with.ensures _ _ c.new.ensures c.try_from_str.ensures) in
    c.build.ensures _ (c.member.ensures _ _ c.new-2.ensures areas)
