use Rattle.std.proofs.Common.{◌∙◌, refl, sym}
use Rattle.mon_session.proofs.Rings.{drop-none, moved_one}
use Rattle.mon_session.proofs.events.move_one.Goals as goal

pub returns-in-Some-clause-moved : goal.returns-in-Some-clause-moved
returns-in-Some-clause-moved c = c.push_front.ensures.items
    ∙ moved_one c.args.undone.now.capacity c.args.made.now.items c.args.undone.now.items c.in-Some.event
    (sym c.pop_back.ensures.value ∙ c.in-Some.is) c.requires

pub returns-in_default-clause-moved : goal.returns-in_default-clause-moved
returns-in_default-clause-moved c =
    rw (drop-none c.args.made.now.items (sym c.pop_back.ensures.value ∙ c.in_default.is)) refl
