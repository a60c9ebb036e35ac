use Rattle.loading.proofs.machine.several_alone.Goals as goal

pub returns-in-Ok-clause-started : goal.returns-in-Ok-clause-started
returns-in-Ok-clause-started g c = (
  c.in-Ok.field-0-1,
  c.in-Ok.ensures.is_map,
  c.in-Ok.ensures.joined,
  c.in-Ok.ensures.assembly,
  c.in-Ok.ensures.session,
  c.in-Ok.ensures.bytes,
)
