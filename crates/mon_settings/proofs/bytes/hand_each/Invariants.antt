use Rattle.std.proofs.Common.{◌≡◌, drop}
use Rattle.mon_session.specs.Course.{KeepsStops, course_of}
use Rattle.mon_settings.specs.ByteLines.{all_happened, first_fault, inputs}
use Rattle.mon_settings.proofs.bytes.hand_each.Given as goal

abbrev pub invariant-loop-byte : goal.invariant-loop-byte
invariant-loop-byte l = record {
  course : all_happened (inputs l.bytes) (course_of l.initial.mon)
      ≡ all_happened (inputs (drop l.byte-index l.bytes)) (course_of l.mon);
  fault : first_fault (inputs l.bytes) (course_of l.initial.mon)
      ≡ first_fault (inputs (drop l.byte-index l.bytes)) (course_of l.mon);
  text : l.mon.text.items ≡ l.initial.mon.text.items;
  stops : KeepsStops l.initial.mon l.mon;
}
