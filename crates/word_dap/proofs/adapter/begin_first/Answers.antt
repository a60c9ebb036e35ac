use Rattle.word_dap.proofs.adapter.begin_first.Goals as goal

pub returns-clause-done : goal.returns-clause-done
returns-clause-done g c =
    (c.in_ok-begun.begun, c.put_client.ensures, (c.in_ok-begun.ensures, c.in_ok-messages.ensures))
