use Rattle.std.proofs.Common.{[], inl, map, option_map, refl, subst, sym, Bool}
use Rattle.std.proofs.KnownBytes.{Appends-nil}
use Rattle.std.proofs.lemmas.Result.{IfOk-weaker, on_err_weaker}
use Rattle.serde_json.specs.View.{view}
use Rattle.word_dap.proofs.Runs.{answers, begins}
use Rattle.word_dap.specs.Served.{Answers}
use Rattle.dap_messages.specs.Messages.{said_of}
use Rattle.word_dap.proofs.serving.answer.Goals as goal

pub returns-in-Ok-clause-answered : goal.returns-in-Ok-clause-answered
returns-in-Ok-clause-answered g c =
    let served = c.in-Ok.served in
    let seen = option_map (λ s. s.now) c.args.seen in
    IfOk-weaker c.send_served.result _ _
    (λ p sent. (
      sent.1,
      subst (λ (end : Bool). Answers seen c.args.body.now c.args.adapter.now c.args.sent c.send_served.new.adapter p.0 end sent.1) (sym sent.0)
          (answers seen c.args.body.now c.args.adapter.now c.args.sent (view served.request) (map said_of served.messages.items) served.is_run
          c.serve_body.new.adapter served.is_end c.send_served.new.adapter p.0 sent.1 c.in-Ok.ensures sent.2),
      sent.3,
    ))
    c.send_served.ensures.sent

pub returns-in-Ok-clause-begun : goal.returns-in-Ok-clause-begun
returns-in-Ok-clause-begun g c =
    let served = c.in-Ok.served in
    on_err_weaker c.send_served.result
    (λ cut. (
      cut.0,
      begins (option_map (λ s. s.now) c.args.seen) c.args.body.now c.args.adapter.now c.args.sent (view served.request)
          (map said_of served.messages.items) served.is_run c.serve_body.new.adapter served.is_end cut.0 c.in-Ok.ensures cut.1,
      cut.2,
    ))
    c.send_served.ensures.cut

pub returns-in-Err-clause-begun : goal.returns-in-Err-clause-begun
returns-in-Err-clause-begun g c = ([], inl refl, Appends-nil _)
