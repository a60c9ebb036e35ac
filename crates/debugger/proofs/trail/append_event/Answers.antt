use Rattle.debugger.proofs.Noting.{pushed, due, due_spare, due_room, room_after, noted, numbered}
use Rattle.debugger.proofs.trail.append_event.Goals as goal

pub save_checkpoint-requires-clause-spare : goal.save_checkpoint-requires-clause-spare
save_checkpoint-requires-clause-spare c =
    let p = pushed c.args.trail.now c.push_back.new.self c.one_more-trail.result c.args.event c.requires.room c.push_back.ensures.items
    c.one_more-trail.ensures in
    due_spare c.drop_oldest.new.trail (due _ _ c.drop_oldest.new.trail c.args.event c.requires.room p
    (record { few = c.drop_oldest.ensures.few; many = c.drop_oldest.ensures.many }))

pub save_checkpoint-requires-clause-room : goal.save_checkpoint-requires-clause-room
save_checkpoint-requires-clause-room c =
    let p = pushed c.args.trail.now c.push_back.new.self c.one_more-trail.result c.args.event c.requires.room c.push_back.ensures.items
    c.one_more-trail.ensures in
    due_room c.drop_oldest.new.trail (due _ _ c.drop_oldest.new.trail c.args.event c.requires.room p
    (record { few = c.drop_oldest.ensures.few; many = c.drop_oldest.ensures.many }))

pub returns-clause-room : goal.returns-clause-room
returns-clause-room c =
    let p = pushed c.args.trail.now c.push_back.new.self c.one_more-trail.result c.args.event c.requires.room c.push_back.ensures.items
    c.one_more-trail.ensures in
    room_after c.drop_oldest.new.trail c.save_checkpoint.new.trail _
    (due _ _ c.drop_oldest.new.trail c.args.event c.requires.room p (record { few = c.drop_oldest.ensures.few; many = c.drop_oldest.ensures.many }))
    (record { none = c.save_checkpoint.ensures.none; one = c.save_checkpoint.ensures.one })

pub returns-clause-noted : goal.returns-clause-noted
returns-clause-noted c = λ before history follows.
    let p = pushed c.args.trail.now c.push_back.new.self c.one_more-trail.result c.args.event c.requires.room c.push_back.ensures.items
    c.one_more-trail.ensures in
    noted _ _ c.drop_oldest.new.trail c.save_checkpoint.new.trail c.args.event before c.args.machine.now c.requires.room p
    (record { few = c.drop_oldest.ensures.few; many = c.drop_oldest.ensures.many })
    (record { none = c.save_checkpoint.ensures.none; one = c.save_checkpoint.ensures.one }) history follows

pub returns-clause-number : goal.returns-clause-number
returns-clause-number c =
    let p = pushed c.args.trail.now c.push_back.new.self c.one_more-trail.result c.args.event c.requires.room c.push_back.ensures.items
    c.one_more-trail.ensures in
    numbered _ _ c.drop_oldest.new.trail c.save_checkpoint.new.trail c.args.event _ c.requires.room p
    (record { few = c.drop_oldest.ensures.few; many = c.drop_oldest.ensures.many })
    (record { none = c.save_checkpoint.ensures.none; one = c.save_checkpoint.ensures.one })

pub save_checkpoint-requires-clause-pages : goal.save_checkpoint-requires-clause-pages
save_checkpoint-requires-clause-pages c = c.drop_oldest.ensures.pages c.args.machine.now.bus.memory c.requires.pages
