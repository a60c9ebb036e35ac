use Rattle.std.proofs.Common.{ap, sym, ◌∙◌, length}
use Rattle.assembler.specs.Assembly.{AssemblyView, source_lines}
use Rattle.assembler.proofs.LineTexts.{count_by}
use Rattle.assembler.proofs.assembly.Assembly.line_count.Goals as goal

pub returns : goal.returns
returns c =
    let i = c.self.inside in
    (c.len.ensures ∙ i.spans.ok.0) ∙ (sym (count_by i.source.items i.spans.items i.texts.items i.paired i.cut)
    ∙ ap (λ (a : AssemblyView). length (source_lines a)) c.self.view_is)
