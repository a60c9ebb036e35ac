use Rattle.std.proofs.Common.{◌∙◌}
use Rattle.mon_calls.proofs.Told.{told_calls}
use Rattle.mon_calls.proofs.calls.push_where.Goals as goal

pub returns : goal.returns
returns c =
    told_calls c.push_calls.result c.args.session.now.current c.args.places.now c.args.text.now.items c.push_calls.new.text.items c.in_ok-tables.tables
    c.as_slice.result.now c.in_ok-tables.ensures (c.as_slice.ensures.value ∙ c.in_ok-frames.ensures) c.push_calls.ensures
