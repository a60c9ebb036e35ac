use Rattle.mon_session.specs.Course.{course_of}
use Rattle.mon_files.proofs.Again.{one_again, one_longer, same_room}
use Rattle.mon_files.proofs.held.record_one.Goals as goal

pub returns-in-Some-clause-course : goal.returns-in-Some-clause-course
returns-in-Some-clause-course c =
    one_again (course_of c.args.mon.now) c.in-Some.event c.next.result c.record_event.new.session c.next.new.self c.next.ensures.event c.in-Some.is
    c.record_event.ensures.led c.next.ensures.kept

pub returns-in-Some-clause-few : goal.returns-in-Some-clause-few
returns-in-Some-clause-few c = one_longer c.in-Some.event c.args.mon.now.session c.record_event.new.session c.record_event.ensures.led

pub returns-in-Some-clause-history : goal.returns-in-Some-clause-history
returns-in-Some-clause-history c = same_room c.in-Some.event c.args.mon.now.session c.record_event.new.session c.record_event.ensures.led
