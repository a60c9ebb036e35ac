use Rattle.std.proofs.Common.{◌≡◌, None, true, arith}
use Rattle.std.specs.Prelude.{is_ok}
use Rattle.std.proofs.lemmas.Grind.{common_steps}
use Rattle.model.specs.Event.{event_of}
use Rattle.mon_session.specs.Course.{course_of}
use Rattle.mon_session.specs.EventTexts.{shown_text}
use Rattle.mon_settings.proofs.Made.{then_said}
use Rattle.mon_settings.proofs.events.show_event.Goals as goal

pub returns-then-branch-clause-text : goal.returns-then-branch-clause-text
returns-then-branch-clause-text c =
    let before = course_of c.args.mon.now in
    let holds : is_ok (event_of before.0.current (c.args.event)) ≡ true = grind (arith, common_steps, c.in_ok-happen.ensures.accepted, c.if-branch.true) in
    then_said c.show.result c.args.mon.now.places.names (c.args.event) before c.args.mon.now.text.items c.happen.new.self.text.items
    c.show.new.self.text.items _ _ holds
    c.in_ok-happen.ensures.text (λ i. shown_text (c.happen.ensures.course i).0.current (c.happen.ensures.stops.1 i).names None) c.show.ensures.text
