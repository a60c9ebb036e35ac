use Rattle.std.proofs.Common.{◌∙◌, ap₂}
use Rattle.lsp_messages.specs.Settings.{first_of}
use Rattle.lsp_messages.proofs.settings.section_at_start.Goals as goal

pub returns : goal.returns
returns c =
    let other = c.first_of-other.ensures ∙ ap₂ first_of c.pointer-by_name.ensures c.pointer-alone.ensures in
    c.first_of.ensures ∙ ap₂ first_of c.pointer-within.ensures other
