use Rattle.std.proofs.Common.{refl}
use Rattle.lsp_messages.proofs.replies.notice.Goals as goal

pub returns : goal.returns
returns c = c.build.ensures _ (c.member.ensures _ _ (c.word-2.ensures _ (c.word.ensures _ c.new.ensures)) refl)
