use Rattle.word_dap.proofs.adapter.launched.Goals as goal

pub returns : goal.returns
returns c = c.with_event.ensures _ c.all_done.ensures
