use Rattle.word_mend.proofs.Read.{own_fault, right_records, right_image, mended_clause, records_clause}
use Rattle.word_mend.proofs.mending.mend_text.Goals as goal

pub returns-in-Ok-clause-records : goal.returns-in-Ok-clause-records
returns-in-Ok-clause-records c = right_records (λ m. m.image) c.as_it_is.result c.args.text.now c.in-Ok.image c.in-Ok.ensures.found c.as_it_is.ensures.image

pub returns-in-Ok-clause-right : goal.returns-in-Ok-clause-right
returns-in-Ok-clause-right c = λ cells d.
    right_image (λ m. m.image) c.as_it_is.result c.in-Ok.image cells
    (c.each_text_has_one_reading.ensures.image c.args.text.now c.in-Ok.image cells c.in-Ok.ensures.found d) c.as_it_is.ensures.image c.as_it_is.ensures.only

pub returns-in-Ok-clause-only : goal.returns-in-Ok-clause-only
returns-in-Ok-clause-only c = λ kind offset cells first d.
    absurd (c.each_text_has_one_reading.ensures.either c.args.text.now c.in-Ok.image kind offset c.in-Ok.ensures.found first)

pub returns-in_default : goal.returns-in_default
returns-in_default c =
    let text = c.args.text.now in
    let first = own_fault text c.in-Err.fault c.in_default.not-OutOfMemory c.in-Err.ensures.fault in
    record {
      text = mended_clause (λ m. m.text.items) (λ m. m.fault) c.with_end.result text c.in-Err.fault first c.with_end.ensures.text c.with_end.ensures.fault;
      denotes = c.with_end.ensures.denotes;
      records = records_clause (λ m. m.text.items) (λ m. m.image) c.with_end.result text c.with_end.ensures.text c.with_end.ensures.denotes;
      right = λ cells d. absurd (c.each_text_has_one_reading.ensures.either text cells c.in-Err.fault.kind c.in-Err.fault.offset d first);
      only = λ kind offset cells _ d. c.with_end.ensures.only cells d;
      refused = c.with_end.ensures.refused;
    }
