use Rattle.std.proofs.Common.{◌≡◌, ◌+◌, drop}
use Rattle.mon_session.specs.Course.{KeepsStops, course_of}
use Rattle.mon_settings.specs.ByteLines.{all_happened, first_fault, patches}
use Rattle.mon_settings.proofs.bytes.patch_each.Given as goal

abbrev pub invariant-loop-index : goal.invariant-loop-index
invariant-loop-index l = record {
  course : all_happened (patches l.address l.bytes) (course_of l.initial.mon)
      ≡ all_happened (patches (l.address + l.index) (drop l.index l.bytes)) (course_of l.mon);
  fault : first_fault (patches l.address l.bytes) (course_of l.initial.mon)
      ≡ first_fault (patches (l.address + l.index) (drop l.index l.bytes)) (course_of l.mon);
  text : l.mon.text.items ≡ l.initial.mon.text.items;
  stops : KeepsStops l.initial.mon l.mon;
}
