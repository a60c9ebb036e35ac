use Rattle.std.proofs.Common.{◌≡◌, ◌∙◌, Some, None, option_map, sym, ap, arith}
use Rattle.assembler.specs.Assembly.{source_lines}
use Rattle.assembler.specs.Lines.{line_view}
use Rattle.remarked_source.specs.Splits.{is_label_at}
use Rattle.remarked_source.proofs.Finding.{found_here, found_more, none_left}
use Rattle.remarked_source.proofs.Lines.{there}
use Rattle.remarked_source.proofs.splits.label_at.Goals as goal

pub returns-in_default : goal.returns-in_default
returns-in_default c =
    absurd (there (source_lines c.args.assembly.now) c.loop-index.index (omega arith) (sym c.line.ensures ∙ ap (option_map line_view) c.in_default.is))

pub returns-then-is_label_at : goal.returns-then-is_label_at
returns-then-is_label_at c =
    found_here (is_label_at c.args.address) (source_lines c.args.assembly.now) c.loop-index.index (line_view c.in-Some.line) _
    (sym c.line.ensures ∙ ap (option_map line_view) c.in-Some.is) (sym c.is_label_at.ensures ∙ c.if-is_label_at.true) c.loop-index.invariant

pub loop-index-preserved : goal.loop-index-preserved
loop-index-preserved c =
    found_more (is_label_at c.args.address) (source_lines c.args.assembly.now) c.loop-index.index (line_view c.in-Some.line) _
    (sym c.line.ensures ∙ ap (option_map line_view) c.in-Some.is) (sym c.is_label_at.ensures ∙ c.if-is_label_at.false) c.loop-index.invariant
