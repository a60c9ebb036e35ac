use Rattle.std.proofs.Common.{◌≡◌, true, arith, Ok}
use Rattle.std.specs.Prelude.{is_ok}
use Rattle.std.proofs.lemmas.Grind.{common_steps}
use Rattle.model.specs.Event.{event_of}
use Rattle.model.specs.declared.event.Event.TheVariants.{Patch}
use Rattle.mon_session.specs.Course.{course_of}
use Rattle.mon_instructions.specs.Instructions.{instruction_line}
use Rattle.mon_settings.proofs.Made.{then_said}
use Rattle.mon_settings.proofs.asm.put_line.Goals as goal

pub returns-in_ok-show_row-clause-text : goal.returns-in_ok-show_row-clause-text
returns-in_ok-show_row-clause-text c =
    let before = course_of c.args.mon.now in
    let holds : is_ok (event_of before.0.current (Patch c.args.address c.args.line.bytes c.args.line.count)) ≡ true =
    grind (arith, common_steps, c.in_ok-happen.ensures.accepted, c.if-branch.true) in
    then_said (Ok tt) c.args.mon.now.places.names (Patch c.args.address c.args.line.bytes c.args.line.count) before c.args.mon.now.text.items
    c.happen.new.self.text.items c.show_row.new.self.text.items _ _ holds
    c.in_ok-happen.ensures.text (λ i. instruction_line (c.happen.ensures.course i).0.current (c.happen.ensures.stops.1 i) c.args.address)
    c.in_ok-show_row.ensures.text
