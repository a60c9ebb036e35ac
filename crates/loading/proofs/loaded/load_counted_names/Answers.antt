use Rattle.loading.proofs.loaded.load_counted_names.Goals as goal

pub returns-clause-named : goal.returns-clause-named
returns-clause-named g c = (
  c.in_ok-names.names.assembly,
  c.in_ok-names.names.others,
  c.in_ok-names.ensures.assembled,
  c.in_ok-names.ensures.named,
  c.in_ok-all.ensures.all,
)
