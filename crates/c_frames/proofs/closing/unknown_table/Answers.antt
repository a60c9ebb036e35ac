use Rattle.c_frames.proofs.Passes.{all_unknown}
use Rattle.c_frames.proofs.closing.unknown_table.Goals as goal

pub returns : goal.returns
returns c = all_unknown 65536 _ _ _ c.new-table.ensures.items c.new-table.ensures.len c.in_ok-resize.ensures.items
