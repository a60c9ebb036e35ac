use Rattle.std.proofs.Common.{◌≡◌, ◌∙◌, ◌+◌, ◌%◌, ◌<◌, ◌∷◌, [], ap, arith, sym, take, true}
use Rattle.word_trace.specs.Notes.{are_written, len_of}
use Rattle.word_trace.proofs.Counting.{and_left, and_right, code_known}
use Rattle.word_trace.proofs.notes.is_code_written.Goals as goal

pub returns : goal.returns
returns c = λ moment here row is.
    let cells = c.args.written.now in
    let len = c.len_of-len.result in
    let pc = c.args.pc in
    let both = and_left _ c.is_part_written-third.result is in
    let known = code_known cells len pc (sym c.contains-first.ensures ∙ and_left c.contains-first.result c.is_part_written-second.result both)
    (λ two. c.is_part_written-second.ensures (and_right c.contains-first.result c.is_part_written-second.result both) (omega (arith, two)))
    (λ three. c.is_part_written-third.ensures (and_right _ c.is_part_written-third.result is) (omega (arith, three))) in
    ap (λ r. are_written cells (take (len_of r) (moment.regs.pc ∷ (moment.regs.pc + 1) % 65536 ∷ (moment.regs.pc + 2) % 65536 ∷ []))) row
    ∙ ap (λ n. are_written cells (take n (moment.regs.pc ∷ (moment.regs.pc + 1) % 65536 ∷ (moment.regs.pc + 2) % 65536 ∷ []))) (sym c.len_of-len.ensures)
    ∙ ap (λ at'. are_written cells (take len (at' ∷ (at' + 1) % 65536 ∷ (at' + 2) % 65536 ∷ []))) here ∙ known
