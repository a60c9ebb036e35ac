use Rattle.std.proofs.Common.{◌≡◌, ◌∙◌, ◌++◌, ◌+◌, [], sym, ap, drop}
use Rattle.std.specs.Prelude.{codes}
use Rattle.trace_rows.specs.Counts.{line_text, unreached_rows}
use Rattle.trace_rows.proofs.Tables.{next_row, no_lines, no_rest, not_reached, reached, rest_at, rest_past, with_rest}
use Rattle.trace_rows.proofs.counts.push_unreached.Goals as goal

pub loop-line-preserved-then-not-is_unreached : goal.loop-line-preserved-then-not-is_unreached
loop-line-preserved-then-not-is_unreached c =
    let tally = c.args.tally.now in
    let text = c.loop-line.text.items in
    let lines = c.args.sites.now.lines.items in
    let i = c.loop-line.line-index in
    let line = c.line-item.result in
    let rest = rest_at lines c.lines-line-items.result.now i line c.lines-line-items.ensures c.loop-line-test.true c.line-item.is in
    let rows : unreached_rows tally (drop i lines) ≡ unreached_rows tally (drop (i + 1) lines) =
    ap (unreached_rows tally) rest ∙ reached tally line (drop (i + 1) lines) (sym c.is_unreached.ensures ∙ c.if-not-is_unreached.true) in
    sym (ap (with_rest c.loop-line.is_first text (text ++ codes "\nnever reached\n")) rows) ∙ c.loop-line.invariant

pub loop-line-preserved : goal.loop-line-preserved
loop-line-preserved c =
    let tally = c.args.tally.now in
    let text = c.loop-line.text.items in
    let lines = c.args.sites.now.lines.items in
    let i = c.loop-line.line-index in
    let line = c.line-item.result in
    let rest = rest_at lines c.lines-line-items.result.now i line c.lines-line-items.ensures c.loop-line-test.true c.line-item.is in
    let rows = ap (unreached_rows tally) rest ∙ not_reached tally line (drop (i + 1) lines) (sym c.is_unreached.ensures ∙ c.if-not-is_unreached.false) in
    next_row c.loop-line.is_first text (text ++ codes "\nnever reached\n") c.push_line.new.text.items [] (line_text line)
    (unreached_rows tally (drop (i + 1) lines))
    (c.in_ok-push_line.ensures ∙ ap (λ t. t ++ line_text line) c.in_ok-push_unreached_title.ensures)
    ∙ sym (ap (with_rest c.loop-line.is_first text (text ++ codes "\nnever reached\n")) rows) ∙ c.loop-line.invariant

pub returns : goal.returns
returns c =
    let text = c.loop-line.text.items in
    let lines = c.args.sites.now.lines.items in
    let past = rest_past lines c.lines-line-items.result.now c.loop-line.line-index c.lines-line-items.ensures c.loop-line-test.false in
    sym (no_rest c.loop-line.is_first text (text ++ codes "\nnever reached\n") _ (no_lines c.args.tally.now _ past)) ∙ c.loop-line.invariant
