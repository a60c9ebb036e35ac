use Rattle.std.proofs.Common.{◌≡◌, IfOk, List, map, subst}
use Rattle.std.specs.Prelude.{ℕ}
use Rattle.dap_messages.specs.Seen.{launch_view, text_view}
use Rattle.dap_session.specs.Options.{program_of}
use Rattle.dap_session.specs.Paths.{path_of, paths_by}
use Rattle.dap_session.proofs.files.files_of.Goals as goal

pub returns-in-Some : goal.returns-in-Some
returns-in-Some c =
    let launch = launch_view c.args.launch.now in
    subst (λ (paths : List (List ℕ)). IfOk c.debug_sources.result (λ files. map path_of files.items ≡ paths))
    (λ i. paths_by (c.in-Some.ensures i) (c.text_of-in-Some.ensures i) (program_of launch) (c.sources.ensures i)) c.debug_sources.ensures

pub returns-in-None : goal.returns-in-None
returns-in-None c =
    let launch = launch_view c.args.launch.now in
    subst (λ (paths : List (List ℕ)). IfOk c.own_file.result (λ files. map path_of files.items ≡ paths))
    (λ i. paths_by (c.in-None.ensures i) launch.source_root (c.program_text.ensures i) c.args.places.now.sources) c.own_file.ensures
