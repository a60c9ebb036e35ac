use Rattle.std.proofs.Common.{◌≡◌, true, length, arith}
use Rattle.std.specs.Prelude.{is_none}
use Rattle.std.proofs.lemmas.Grind.{common_steps}
use Rattle.mon_session.specs.Course.{course_of}
use Rattle.mon_settings.specs.ByteLines.{first_fault, patches}
use Rattle.mon_settings.specs.ChangeTexts.{stored_text}
use Rattle.mon_settings.proofs.Made.{then_all}
use Rattle.mon_settings.proofs.bytes.put_within.Goals as goal

pub returns-clause-text : goal.returns-clause-text
returns-clause-text c =
    let f = first_fault (patches c.args.address c.args.bytes.now) (course_of c.args.mon.now) in
    let holds : is_none f ≡ true = grind (arith, common_steps, c.in_ok-patch_each.ensures.done, c.if-not-branch.false) in
    then_all c.say_stored.result c.args.mon.now.places.names f c.args.mon.now.text.items c.patch_each.new.mon.text.items
    c.say_stored.new.mon.text.items _ _ holds
    c.in_ok-patch_each.ensures.text (λ i. stored_text (c.patch_each.ensures.stops.1 i).names c.args.address (length c.args.bytes.now)) c.say_stored.ensures.text
