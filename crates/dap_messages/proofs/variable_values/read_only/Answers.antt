use Rattle.dap_messages.proofs.variable_values.read_only.Goals as goal

pub returns : goal.returns
returns c =
    let attributes = c.build-attributes.ensures _ (c.with.ensures _ _ c.new.ensures c.try_from_str.ensures) in
    c.build.ensures _ (c.member.ensures _ _ c.new-2.ensures attributes)
