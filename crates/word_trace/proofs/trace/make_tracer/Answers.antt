use Rattle.std.proofs.Common.{◌∙◌, ap}
use Rattle.arguments_play.specs.Trace.{trace_view}
use Rattle.word_trace.specs.Gathered.{none_gathered}
use Rattle.word_trace.proofs.trace.make_tracer.Goals as goal

pub returns-clause-nothing : goal.returns-clause-nothing
returns-clause-nothing c = (
  c.in_ok-sites.sites,
  c.in_ok-sites.ensures.sites,
  c.in_ok-new.ensures.gathered ∙ ap (none_gathered (trace_view c.args.words.now) c.in_ok-sites.sites) c.in_ok-written.ensures.first,
)
