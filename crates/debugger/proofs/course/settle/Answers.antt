use Rattle.std.proofs.lemmas.List.{take-replicate}
use Rattle.model.specs.declared.event.Event.TheVariants.{Step}
use Rattle.debugger.proofs.Quiet.{settled}
use Rattle.debugger.proofs.course.settle.Goals as goal

pub returns : goal.returns
returns c =
    settled c.args.trail.now c.args.steps _ _ _ _ (take-replicate c.args.steps 1024 Step c.requires.few) c.requires.room
    c.fill_from_slice.ensures.count c.fill_from_slice.ensures.items c.min-trail.ensures
