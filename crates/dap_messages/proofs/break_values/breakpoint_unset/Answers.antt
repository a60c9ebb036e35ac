use Rattle.dap_messages.proofs.break_values.breakpoint_unset.Goals as goal

pub returns-in-Some : goal.returns-in-Some
returns-in-Some c = rw c.in-Some.is (c.build.ensures _ (c.count-in-Some.ensures _ (c.flag-told.ensures _ (c.word.ensures _ (c.count.ensures _ c.new.ensures)))))

pub returns-in-None : goal.returns-in-None
returns-in-None c = rw c.in-None.is (c.build-in-None.ensures _ (c.flag-told.ensures _ (c.word.ensures _ (c.count.ensures _ c.new.ensures))))
