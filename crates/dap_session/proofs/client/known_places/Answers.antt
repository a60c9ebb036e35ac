use Rattle.dap_session.proofs.client.known_places.Goals as goal

pub returns-in-Ok : goal.returns-in-Ok
returns-in-Ok g c = (c.in_ok-places.places, c.in_ok-places.ensures, c.in-Ok.ensures)
