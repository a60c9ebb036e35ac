use Rattle.std.proofs.Common.{◌≡◌, ◌++◌, ◌∷◌, [], ap, sym, ◌∙◌, length, replicate, arith, append_assoc}
use Rattle.model.specs.declared.event.Event.TheVariants.{Step}
use Rattle.circular_buffer.specs.Buffer.{buffer, keep_last}
use Rattle.mon_session.proofs.Rings.{keep_last-all, keep_last-replicate_more}
use Rattle.mon_session.proofs.events.push_steps.Goals as goal

pub loop-init : goal.loop-init
loop-init c = ap (λ xs. buffer xs c.args.made.now.capacity)
    (sym (keep_last-all c.args.made.now.capacity c.args.made.now.items c.requires))

pub loop-preserved : goal.loop-preserved
loop-preserved c = rw (c.push_back.ensures.items, c.loop.invariant, keep_last-replicate_more)
