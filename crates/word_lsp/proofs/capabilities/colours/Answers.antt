use Rattle.word_lsp.specs.Capabilities.{colours}
use Rattle.word_lsp.proofs.capabilities.colours.Goals as goal

pub returns : goal.returns
unfolding colours
returns c =
    let legend = c.build-legend.ensures _ (c.member-2.ensures _ _ (c.member.ensures _ _ c.new.ensures c.words.ensures) c.words-2.ensures) in
    c.build.ensures _ (c.flag-2.ensures _ (c.member-3.ensures _ _ (c.flag.ensures _ c.new-2.ensures) legend))
