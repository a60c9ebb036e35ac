use Rattle.std.proofs.Common.{◌≡◌, true, refl, arith}
use Rattle.std.specs.Prelude.{is_none}
use Rattle.std.proofs.lemmas.Grind.{common_steps}
use Rattle.mon_session.specs.Course.{course_of}
use Rattle.mon_settings.specs.ByteLines.{first_fault, inputs}
use Rattle.mon_settings.proofs.Made.{then_all}
use Rattle.mon_settings.proofs.bytes.hand_in.Goals as goal

pub returns-clause-text : goal.returns-clause-text
returns-clause-text c =
    let f = first_fault (inputs c.args.bytes.now) (course_of c.args.mon.now) in
    let holds : is_none f ≡ true = grind (arith, common_steps, c.in_ok-hand_each.ensures.done, c.if-not-branch.false) in
    then_all c.count.result c.args.mon.now.places.names f c.args.mon.now.text.items c.hand_each.new.mon.text.items c.count.new.self.text.items _ _ holds
    c.in_ok-hand_each.ensures.text refl c.count.ensures.text
