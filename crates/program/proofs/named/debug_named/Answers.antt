use Rattle.std.proofs.Common.{refl}
use Rattle.program.specs.Views.{debug_view}
use Rattle.program.proofs.Transcripts.{runs_debug}
use Rattle.program.proofs.named.debug_named.Goals as goal

pub returns-clause-runs : goal.returns-clause-runs
returns-clause-runs g c =
    runs_debug (debug_view c.args.words.now) (debug_view c.args.words.now) _ _ c.debug.result c.finish_session.result refl c.debug.ensures.bad_map
    c.debug.ensures.refused c.debug.ensures.served c.finish_session.ensures.status
