use Rattle.std.proofs.Common.{sym, ◌∙◌}
use Rattle.assembler.proofs.LineTexts.{first_cut, first_uncut}
use Rattle.assembler.proofs.source_line.first_line.Goals as goal

pub returns-in-Some-clause-cut : goal.returns-in-Some-clause-cut
returns-in-Some-clause-cut c = first_cut c.args.text.now c.in-Some.at c.len_without_return.result (sym c.line_feed.ensures ∙ c.in-Some.is)
    c.len_without_return.ensures.cut c.len_without_return.ensures.inside

pub returns-in-None-clause-cut : goal.returns-in-None-clause-cut
returns-in-None-clause-cut c = first_uncut c.args.text.now c.requires (sym c.line_feed.ensures ∙ c.in-None.is)
