use Rattle.std.proofs.Common.{rules}
use Rattle.lsp_messages.specs.Replies.{number_of}
use Rattle.serde_json.specs.Data.{number}
use Rattle.serde_json.specs.Find.{of_integer}
use Rattle.serde_json.specs.View.{view}
use Rattle.lsp_messages.proofs.replies.failure_reply.Goals as goal

pub returns : goal.returns
returns c = c.build.ensures _ (c.word-2.ensures _ (c.member-3.ensures _ (view c.args.id.now)
    (c.member-2.ensures _ _ c.new-2.ensures (c.build-error.ensures _
    (c.word.ensures _ (c.member.ensures _ (number (of_integer (number_of c.args.failure))) c.new.ensures (search rules))))) (search rules)))
