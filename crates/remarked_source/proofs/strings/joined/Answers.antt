use Rattle.std.proofs.Common.{◌≡◌, ◌∙◌, Some, None, Option, option_map, slice_get, sym, ap, arith, rules}
use Rattle.assembler.specs.Assembly.{source_lines}
use Rattle.assembler.specs.Lines.{line_view}
use Rattle.remarked_source.specs.Strings.{joined_from}
use Rattle.remarked_source.proofs.Lines.{there}
use Rattle.remarked_source.proofs.StringLines.{line_more, lines_end}
use Rattle.remarked_source.proofs.strings.joined.Goals.{in-Some+in_ok-push_joined, in_default}
use Rattle.remarked_source.proofs.strings.joined.Goals as goal

pub loop-index-preserved : goal.loop-index-preserved
loop-index-preserved c =
    let marks = c.args.marks.now in
    let lines = source_lines c.args.assembly.now in
    let i = c.loop-index.index in
    elim c.match-line.branch [
      | in-Some+in_ok-push_joined w ↦
          rw w.before-is (line_more marks (option_map line_view c.loop-index.before) i lines (line_view w.in-Some.line) c.loop-index.out.items _
          (joined_from marks None lines)
          (sym c.line.ensures ∙ ap (option_map line_view) w.in-Some.is) (search rules) c.loop-index.invariant)
      | in_default w ↦ absurd (there lines i (omega arith) (sym c.line.ensures ∙ ap (option_map line_view) w.in_default.is))
    ]

pub returns : goal.returns
returns c =
    let lines = source_lines c.args.assembly.now in
    lines_end c.args.marks.now (option_map line_view c.loop-index.before) c.loop-index.index lines c.loop-index.out.items
    c.push_last_end.new.out.items (joined_from c.args.marks.now None lines)
    (omega arith) (search rules) c.loop-index.invariant
