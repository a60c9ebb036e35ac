use Rattle.mon_dispatch.proofs.lines.serve.Goals as goal

pub returns : goal.returns
returns c = (
  c.follow.new.mon,
  c.in_ok-outcome.outcome,
  c.in_ok-outcome.ensures,
  c.is_over.ensures,
  c.tell_behind.ensures.shows,
  c.in_ok-tell_behind.ensures.text,
)
