use Rattle.dap_session.proofs.client.begin_on.Goals as goal

pub returns : goal.returns
returns g c = (c.in_ok-places.places, c.in_ok-places.ensures, c.in_ok-client_on.ensures)
