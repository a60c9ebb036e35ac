use Rattle.std.proofs.Common.{◌++◌, List, map, option_map, refl, subst}
use Rattle.std.proofs.KnownBytes.{Appends-trans}
use Rattle.serde_json.specs.View.{view}
use Rattle.word_dap.proofs.Runs.{run_begun}
use Rattle.word_dap.specs.Sent.{AreBegun, AreSent}
use Rattle.dap_messages.specs.Messages.{said_of}
use Rattle.dap_messages.specs.declared.message.Message.{Message}
use Rattle.word_dap.proofs.serving.send_served.Goals as goal

pub returns-in-Ok-send-clause-sent : goal.returns-in-Ok-send-clause-sent
returns-in-Ok-send-clause-sent g c =
    let request = view c.args.served.request in
    let run = c.in-Ok.ensures.ran in
    let sent = c.in-Ok-send.ensures.sent in
    let so_far = c.in-Ok.so_far in
    let total = c.in-Ok-send.total in (
      refl,
      run.2 ++ sent.0,
      (
        run.0,
        run.1,
        map said_of c.run_on-ran.new.messages.items,
        so_far,
        run.2,
        sent.0,
        run.3,
        subst (λ (ms : List Message). AreSent so_far request (map said_of ms) total sent.0) c.deref.ensures.value sent.1,
        refl,
      ),
      Appends-trans _ _ _ run.2 sent.0 run.4 sent.2,
    )

pub returns-in-Ok-clause-cut : goal.returns-in-Ok-clause-cut
returns-in-Ok-clause-cut g c =
    let served = c.args.served in
    let request = view served.request in
    let run = c.in-Ok.ensures.ran in
    let begun = c.in-Err-send.ensures.begun in
    let so_far = c.in-Ok.so_far in (
      run.2 ++ begun.0,
      run_begun (option_map (λ s. s.now) c.args.seen) served.is_run request (map said_of served.messages.items) c.args.adapter.now c.args.sent run.0
          (map said_of c.run_on-ran.new.messages.items) c.run_on-ran.new.adapter so_far run.2 begun.0 run.1 run.3
          (subst (λ (ms : List Message). AreBegun so_far request (map said_of ms) begun.0) c.deref.ensures.value begun.1),
      Appends-trans _ _ _ run.2 begun.0 run.4 begun.2,
    )
