use Rattle.std.proofs.Common.{◌+◌, ◌-◌, vec_len, arith}
use Rattle.formatting.proofs.Padding.{filled}
use Rattle.formatting.proofs.growing.push_blanks.Goals as goal

pub returns : goal.returns
returns c = filled c.args.from c.args.width (c.len-2.result + c.saturating_sub-missing.result)
    (c.len-2.result + c.saturating_sub-missing.result - vec_len c.args.text.now)
    c.args.text.now.items c.resize.new.self.items c.requires (omega arith) (omega arith)
    c.in_ok-resize.ensures.items
