use Rattle.std.proofs.Common.{◌∙◌, ap, arith, map}
use Rattle.dap_session.proofs.Sources.{path_more, paths_done}
use Rattle.dap_session.specs.Paths.{path_of}
use Rattle.dap_session.proofs.files.debug_sources.Goals as goal

pub loop-source-init : goal.loop-source-init
loop-source-init c = ap (map path_of) c.new-files.ensures.items

pub loop-source-preserved : goal.loop-source-preserved
loop-source-preserved c = path_more _ c.args.sources.now c.loop-source.source-index c.source-item.result c.in_ok-named.named _ _
    (omega (arith, c.loop-source-test.true)) c.source-item.is (c.in_ok-named.ensures ∙ c.in_ok-path.ensures) c.in_ok-push.ensures.items
    c.loop-source.invariant

pub returns : goal.returns
returns c = paths_done _ c.args.sources.now c.loop-source.source-index c.loop-source.files.items (omega (arith, c.loop-source-test.false))
    c.loop-source.invariant
