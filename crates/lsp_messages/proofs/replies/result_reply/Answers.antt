use Rattle.std.proofs.Common.{refl, rules}
use Rattle.serde_json.specs.View.{view}
use Rattle.lsp_messages.proofs.replies.result_reply.Goals as goal

pub returns : goal.returns
returns c = c.build.ensures _ (c.member-2.ensures _ _ (c.word.ensures _ (c.member.ensures _ (view c.args.id.now) c.new.ensures (search rules))) refl)
