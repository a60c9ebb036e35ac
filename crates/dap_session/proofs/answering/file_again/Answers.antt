use Rattle.std.proofs.Common.{◌≡◌, IfOk, ℕ, List, refl, subst}
use Rattle.std.proofs.lemmas.Result.{IfOk-weaker}
use Rattle.dap_messages.specs.SeenAnswers.{answer_view}
use Rattle.dap_session.proofs.Done.{set_so}
use Rattle.dap_session.specs.Answered.{SetsSourceOf}
use Rattle.dap_session.specs.Paths.{path_at}
use Rattle.dap_session.proofs.answering.file_again.Goals as goal

pub returns : goal.returns
returns g c =
    let source = c.source_of-source.ensures in
    let kept = c.set_source.ensures.kept in
    let old = c.args.client.now in
    let new = record old { mon = c.set_source.new.mon; listed = c.set_source.new.listed } in
    let files = c.args.files.now in
    let path = path_at files c.args.listed.file in
    let sets : IfOk c.set_source.result (λ v. SetsSourceOf c.args.counting c.path_at-path.result.now c.args.listed.lines old new (answer_view v))
    = rw (← source.files, ← source.counting) (IfOk-weaker c.set_source.result _ _ (λ v h. (h, kept)) c.set_source.ensures.sets) in
    let named : IfOk c.set_source.result (λ v. SetsSourceOf c.args.counting path c.args.listed.lines old new (answer_view v))
    = subst (λ (p : List ℕ). IfOk c.set_source.result (λ v. SetsSourceOf c.args.counting p c.args.listed.lines old new (answer_view v)))
    c.path_at-path.ensures sets in
    record {
      set = set_so c.let_go.result c.set_source.result (SetsSourceOf c.args.counting path c.args.listed.lines old new) named c.let_go.ensures;
      kept = (kept.0, kept.3, kept.4);
      launch = refl;
    }
