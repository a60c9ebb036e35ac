use Rattle.std.proofs.Common.{◌∙◌, ap, sym}
use Rattle.accesses.specs.Moments.{moment_of}
use Rattle.word_trace.specs.Notes.{are_written}
use Rattle.word_trace.proofs.Counting.{and_left, and_right}
use Rattle.word_trace.proofs.notes.is_touched_written.Goals as goal

pub returns : goal.returns
returns c = λ is.
    let cells = c.args.written.now in
    let code = c.is_code_written-code_is.result in
    let reads = c.are_written-reads_are.result in
    let stores = c.are_written-stores_are.result in
    let both = and_left _ stores is in
    record {
      code = c.is_code_written-code_is.ensures (moment_of c.args.session.now.current) (sym (ap (λ r. r.pc) c.regs-regs.ensures))
          (sym c.row_here-row.ensures) (and_left code reads both);
      reads = sym (ap (are_written cells) c.reads_here-reads.ensures) ∙ sym c.are_written-reads_are.ensures ∙ and_right code reads both;
      stores = sym (ap (are_written cells) c.stores_here-stores.ensures) ∙ sym c.are_written-stores_are.ensures ∙ and_right _ stores is;
    }
