use Rattle.word_lsp.specs.Capabilities.{fixes, served, signatures, sync}
use Rattle.word_lsp.proofs.capabilities.served.Goals as goal

pub returns : goal.returns
unfolding fixes served signatures sync
returns c =
    let mends = c.build-fixes.ensures _ (c.member.ensures _ _ c.new.ensures c.words.ensures) in
    let forms = c.build-signatures.ensures _ (c.member-2.ensures _ _ c.new-2.ensures c.words-2.ensures) in
    let texts = c.build-sync.ensures _ (c.flag.ensures _ (c.count.ensures _ c.new-3.ensures)) in
    let m2 = c.member-4.ensures _ _ (c.member-3.ensures _ _ c.new-4.ensures mends) (c.build.ensures _ c.new-5.ensures) in
    let m8 = c.flag-7.ensures _ (c.flag-6.ensures _ (c.flag-5.ensures _ (c.flag-4.ensures _ (c.flag-3.ensures _ (c.flag-2.ensures _ m2))))) in
    let m10 = c.flag-8.ensures _ (c.word.ensures _ m8) in
    let m11 = c.member-5.ensures _ _ m10 c.renames.ensures in
    let m13 = c.member-7.ensures _ _ (c.member-6.ensures _ _ m11 c.colours.ensures) forms in
    c.build-2.ensures _ (c.flag-9.ensures _ (c.member-8.ensures _ _ m13 texts))
