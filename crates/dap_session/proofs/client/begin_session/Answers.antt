use Rattle.std.proofs.Common.{◌∙◌, List, ap, subst, sym}
use Rattle.std.proofs.lemmas.Result.{IfOk-weaker}
use Rattle.std.specs.Prelude.{Bool}
use Rattle.accesses.specs.Writing.{bytes_in}
use Rattle.arguments.specs.Asked.{file_view, map_of}
use Rattle.dap_session.specs.Begun.{HasPlaces, IsLaunched, IsNewClient}
use Rattle.model.specs.Event.{start}
use Rattle.model.specs.Session.{Session, new_session}
use Rattle.dap_messages.specs.Seen.{launch_view}
use Rattle.dap_session.proofs.client.begin_session.Goals as goal

pub returns-in-Ok : goal.returns-in-Ok
unfolding IsLaunched
returns-in-Ok g c =
    let launch = launch_view c.args.launch.now in
    let file = file_view c.in_ok-words.words in
    let loaded = c.in-Ok.loaded in
    let assembly = loaded.assembly in
    let started = c.in-Ok.ensures.started in
    let session = started.2 ∙ ap (λ n. new_session n (start (map_of file) started.0)) c.history_of.ensures.value in
    let debug = sym c.is_debug_wrong.ensures ∙ c.if-is_debug_wrong.false in
    IfOk-weaker c.begin_on.result _ _
    (λ client h. (
      file,
      c.in_ok-words.ensures,
      debug,
      (
        started.0,
        assembly,
        loaded.fill,
        started.1,
        h.0,
        subst (λ (s : Session). HasPlaces launch file s assembly (bytes_in started.0) h.0) session
            (subst (λ (w : List Bool). HasPlaces launch file loaded.session assembly w h.0) started.3 h.1),
        subst (λ (s : Session). IsNewClient launch s h.0 client) session h.2,
      ),
    )) c.begin_on.ensures
