use Rattle.dap_session.proofs.client.places_of.Goals as goal

pub returns-in-Some : goal.returns-in-Some
returns-in-Some c = rw (c.in-Some.is, ← c.as_bytes.ensures.value) c.of_source.ensures

pub returns-in-None : goal.returns-in-None
returns-in-None c = rw c.in-None.is c.new.ensures
