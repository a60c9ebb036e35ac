use Rattle.std.proofs.Common.{◌+◌, ◌++◌, [], append_assoc, append-nil, drop, map, subst, sym}
use Rattle.std.proofs.KnownBytes.{Appends-nil, Appends-trans}
use Rattle.serde_json.specs.View.{view}
use Rattle.word_dap.specs.Sent.{AreSent}
use Rattle.dap_messages.specs.Messages.{said_of}
use Rattle.word_dap.proofs.Sent.{begun_behind, sent_begun, sent_end, sent_step}
use Rattle.word_dap.proofs.sending.send.Goals as goal

pub loop-message-init : goal.loop-message-init
loop-message-init g c = ([], Appends-nil _, λ total behind h. h)

pub loop-message-preserved : goal.loop-message-preserved
loop-message-preserved g c =
    let inv = c.loop-message.invariant in
    let one = c.in-Ok.ensures.sent in
    let request = view c.args.request.now in
    let messages = c.args.messages.now in
    let i = c.loop-message.message-index in (
      inv.0 ++ one.0,
      Appends-trans _ _ _ inv.0 one.0 inv.1 one.2,
      λ total behind h. subst (AreSent c.args.sent request (map said_of messages) total) (sym (append_assoc inv.0 one.0 behind))
          (inv.2 total (one.0 ++ behind) (sent_step c.loop-message.sent request messages i c.message-item.result c.loop-message-test.true
          c.message-item.is one.0 one.1 total behind
          (subst (λ n. AreSent n request (map said_of (drop (i + 1) messages)) total behind) c.in-Ok.ensures.number h))),
    )

pub returns-in-Err-clause-begun : goal.returns-in-Err-clause-begun
returns-in-Err-clause-begun g c =
    let inv = c.loop-message.invariant in
    let one = c.in-Err.ensures.begun in
    let request = view c.args.request.now in
    let messages = c.args.messages.now in
    let i = c.loop-message.message-index in
    let begun = sent_begun c.loop-message.sent request messages i c.message-item.result c.loop-message-test.true c.message-item.is one.0 one.2.0
    one.2.1 one.1 one.2.2 in (
      inv.0 ++ one.2.0,
      begun_behind c.loop-message.sent c.args.sent request (map said_of messages) (map said_of (drop i messages)) inv.0 one.2.0 inv.2 begun,
      Appends-trans _ _ _ inv.0 one.2.0 inv.1 one.2.3,
    )

pub returns-clause-sent : goal.returns-clause-sent
returns-clause-sent g c =
    let inv = c.loop-message.invariant in
    let request = view c.args.request.now in
    let messages = c.args.messages.now in (
      inv.0,
      subst (AreSent c.args.sent request (map said_of messages) c.loop-message.sent) (append-nil inv.0)
          (inv.2 c.loop-message.sent [] (sent_end c.loop-message.sent request messages c.loop-message.message-index c.loop-message-test.false)),
      inv.1,
    )
