use Rattle.std.proofs.Common.{◌≡◌, true, arith}
use Rattle.std.specs.Prelude.{is_ok}
use Rattle.std.proofs.lemmas.Grind.{common_steps}
use Rattle.model.specs.Event.{event_of}
use Rattle.model.specs.declared.event.Event.TheVariants.{Irq}
use Rattle.mon_session.specs.Course.{course_of}
use Rattle.mon_settings.specs.ChangeTexts.{level_text}
use Rattle.mon_settings.proofs.Made.{then_said}
use Rattle.mon_settings.proofs.events.set_irq.Goals as goal

pub returns-then-branch-clause-text : goal.returns-then-branch-clause-text
returns-then-branch-clause-text c =
    let before = course_of c.args.mon.now in
    let holds : is_ok (event_of before.0.current (Irq c.args.level)) ≡ true = grind (arith, common_steps, c.in_ok-happen.ensures.accepted, c.if-branch.true) in
    then_said c.say_level.result c.args.mon.now.places.names (Irq c.args.level) before c.args.mon.now.text.items c.happen.new.self.text.items
    c.say_level.new.mon.text.items _ _ holds
    c.in_ok-happen.ensures.text (λ i. level_text c.args.level (c.happen.ensures.course i).0.current) c.say_level.ensures.text
