use Rattle.std.proofs.Common.{◌≡◌, sym, ◌∙◌, Some, None}
use Rattle.std.specs.Prelude.{position}
use Rattle.line_parts.proofs.CutAtLineFeed.{is_end, lines_of-cut, lines_of-uncut}
use Rattle.line_parts.proofs.line.next_line.Goals as goal

pub returns-in-Some-clause-cut : goal.returns-in-Some-clause-cut
returns-in-Some-clause-cut c =
    let met : position is_end c.args.text.now ≡ Some c.in-Some.at = sym c.line_feed.ensures ∙ c.in-Some.is in
    rw c.without_return.ensures (lines_of-cut c.args.text.now c.in-Some.at met)

pub returns-in-None-clause-cut : goal.returns-in-None-clause-cut
returns-in-None-clause-cut c =
    let met : position is_end c.args.text.now ≡ None = sym c.line_feed.ensures ∙ c.in-None.is in
    lines_of-uncut c.args.text.now c.requires met
