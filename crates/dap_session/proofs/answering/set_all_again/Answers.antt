use Rattle.std.proofs.lemmas.Result.{on_ok_weaker}
use Rattle.dap_session.proofs.answering.set_all_again.Goals as goal

pub returns-clause-set : goal.returns-clause-set
returns-clause-set g c = on_ok_weaker c.bytes_again.result
    (λ set. (
      c.files_again.new.client,
      c.addresses_again.new.client,
      c.functions_again.new.client,
      c.in_ok-files_again.ensures.set,
      c.in_ok-addresses_again.ensures.set,
      c.in_ok-functions_again.ensures.set,
      set,
    ))
    c.bytes_again.ensures.set
