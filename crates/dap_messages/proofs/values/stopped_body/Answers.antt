use Rattle.std.proofs.Common.{◌≡◌, ℕ, IfOk, List, subst}
use Rattle.dap_messages.specs.Values.{stopped_body}
use Rattle.serde_json.specs.View.{view}
use Rattle.dap_messages.proofs.values.stopped_body.Goals as goal

pub returns : goal.returns
returns c =
    let body = c.build.ensures _ (c.count.ensures _ (c.word-3.ensures _
    (c.member.ensures _ _ (c.word.ensures _ (c.flag.ensures _ c.new.ensures)) c.numbers.ensures))) in
    subst (λ (r : List ℕ). IfOk c.build.result (λ v. view v ≡ stopped_body r c.args.words.now c.args.hits.now)) c.word-2.ensures body
