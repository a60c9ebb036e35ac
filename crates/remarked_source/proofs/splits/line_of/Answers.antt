use Rattle.std.proofs.Common.{◌≡◌, ◌∙◌, Some, None, option_map, sym, ap, arith}
use Rattle.assembler.specs.Assembly.{source_lines}
use Rattle.assembler.specs.Lines.{line_view}
use Rattle.remarked_source.specs.Splits.{covers}
use Rattle.remarked_source.proofs.Finding.{found_here, found_more, none_left}
use Rattle.remarked_source.proofs.Lines.{there}
use Rattle.remarked_source.proofs.splits.line_of.Goals as goal

pub returns-in_default-clause-found : goal.returns-in_default-clause-found
returns-in_default-clause-found c =
    absurd (there (source_lines c.args.assembly.now) c.loop-index.index (omega arith) (sym c.line.ensures ∙ ap (option_map line_view) c.in_default.is))

pub returns-then-covers-clause-found : goal.returns-then-covers-clause-found
returns-then-covers-clause-found c =
    found_here (covers c.args.address) (source_lines c.args.assembly.now) c.loop-index.index (line_view c.in-Some.line) _
    (sym c.line.ensures ∙ ap (option_map line_view) c.in-Some.is) (sym c.covers.ensures ∙ c.if-covers.true) c.loop-index.invariant

pub loop-index-preserved : goal.loop-index-preserved
loop-index-preserved c =
    found_more (covers c.args.address) (source_lines c.args.assembly.now) c.loop-index.index (line_view c.in-Some.line) _
    (sym c.line.ensures ∙ ap (option_map line_view) c.in-Some.is) (sym c.covers.ensures ∙ c.if-covers.false) c.loop-index.invariant
