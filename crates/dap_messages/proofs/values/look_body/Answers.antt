use Rattle.dap_messages.proofs.values.look_body.Goals as goal

pub returns-in-Some : goal.returns-in-Some
returns-in-Some c = rw c.in-Some.is (c.build.ensures _ (c.count.ensures _ (c.word.ensures _ (c.text.ensures _ _ c.new.ensures c.reference.ensures))))

pub returns-in-None : goal.returns-in-None
returns-in-None c = rw c.in-None.is (c.build-in-None.ensures _ (c.count-in-None.ensures _ (c.word-in-None.ensures _ c.new-in-None.ensures)))
