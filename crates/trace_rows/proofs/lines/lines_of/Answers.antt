use Rattle.std.proofs.Common.{ap, sym, ◌∙◌, map}
use Rattle.assembler.specs.Assembly.{source_lines}
use Rattle.trace_rows.specs.SourceLines.{listed}
use Rattle.trace_rows.proofs.Places.{lines_more, lines_none}
use Rattle.trace_rows.proofs.lines.lines_of.Goals as goal

pub loop-index-init : goal.loop-index-init
loop-index-init c = ap (map listed) c.new-lines.ensures.items ∙ sym lines_none

pub loop-index-preserved : goal.loop-index-preserved
loop-index-preserved c = lines_more (source_lines c.args.assembly.now) c.loop-index.index (map listed c.loop-index.lines.items)
    (map listed c.push_line_at.new.lines.items) c.loop-index.invariant c.in_ok-push_line_at.ensures
