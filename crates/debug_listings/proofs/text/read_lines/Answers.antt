use Rattle.std.proofs.Common.{◌∙◌, ap, arith, sym, true-eqb}
use Rattle.model.specs.TextLines.{lines_of}
use Rattle.debug_listings.specs.Reading.{reading_view}
use Rattle.debug_listings.specs.Texts.{lines_read}
use Rattle.debug_records.proofs.LineLengths.{length-first_line}
use Rattle.debug_records.proofs.Passing.{passed_on_in_file}
use Rattle.debug_listings.proofs.Ways.{line_more, line_refused, no_line_left}
use Rattle.debug_listings.proofs.text.read_lines.Goals as goal

pub loop-rest-init : goal.loop-rest-init
loop-rest-init c = record {
  room = omega arith;
  read = ap (lines_read 1 (lines_of c.args.text.now)) (sym c.nothing_read-reading.ensures);
}

pub take_numbered-requires : goal.take_numbered-requires
take_numbered-requires c = omega (arith, length-first_line c.loop-rest.rest.now c.next_line.result.0.now _ c.next_line.ensures.cut, c.loop-rest.invariant.room)

pub loop-rest-preserved : goal.loop-rest-preserved
loop-rest-preserved c = record {
  room = omega (arith, c.next_line.ensures.shorter, c.loop-rest.invariant.room);
  read = c.loop-rest.invariant.read
      ∙ (ap (λ lines. lines_read c.loop-rest.number lines (reading_view c.loop-rest.reading)) c.next_line.ensures.cut
      ∙ line_more c.loop-rest.number _ _ _ _ c.in-Ok.ensures);
}

pub returns-in-Err : goal.returns-in-Err
returns-in-Err c = passed_on_in_file c.in-Err.why _ _
    (λ fault k. c.loop-rest.invariant.read
    ∙ (ap (λ lines. lines_read c.loop-rest.number lines (reading_view c.loop-rest.reading)) c.next_line.ensures.cut
    ∙ line_refused c.loop-rest.number _ _ _ fault k))
    c.in-Err.ensures

pub returns : goal.returns
returns c = c.loop-rest.invariant.read
    ∙ no_line_left c.loop-rest.number c.loop-rest.rest.now (reading_view c.loop-rest.reading) (true-eqb _ 0 c.loop-rest-test.ensures)
