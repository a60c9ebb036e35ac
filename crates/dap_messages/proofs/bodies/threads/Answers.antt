use Rattle.dap_messages.proofs.bodies.threads.Goals as goal

pub returns : goal.returns
returns c =
    let thread = c.build-thread.ensures _ (c.word.ensures _ (c.count.ensures _ c.new.ensures)) in
    let threads = c.build-threads.ensures _ (c.with.ensures _ _ c.new-2.ensures thread) in
    c.build.ensures _ (c.member.ensures _ _ c.new-3.ensures threads)
