use Rattle.std.proofs.Common.{◌≡◌, ◌∙◌, List, ℕ, map, length, sym, ap, arith, rules, true-eqb}
use Rattle.model.specs.TextLines.{lines_of}
use Rattle.word_page.specs.Notes.{Noted, note_view, notes_from}
use Rattle.word_page.proofs.NoteLines.{all_lines, no_note, one_line}
use Rattle.word_page.proofs.notes.read_lines.Goals as goal

pub loop-rest-init : goal.loop-rest-init
loop-rest-init c = record {
  room = omega arith;
  left = ap (λ (notes : List Noted). notes_from 1 notes (lines_of c.args.text.now)) (ap (map note_view) c.new-notes.ensures.items);
}

pub loop-rest-preserved : goal.loop-rest-preserved
loop-rest-preserved c =
    let n = c.loop-rest.number in
    let notes = map note_view c.loop-rest.notes.items in
    record {
      room = omega (arith, c.next_line.ensures.shorter, c.loop-rest.invariant.room);
      left = sym (ap (notes_from n notes) c.next_line.ensures.cut
          ∙ one_line n notes (map note_view c.push_line.new.notes.items) c.next_line.result.0.now (lines_of c.next_line.result.1.now) (search rules))
          ∙ c.loop-rest.invariant.left;
    }

pub returns-in-Ok-false-clause-err : goal.returns-in-Ok-false-clause-err
returns-in-Ok-false-clause-err c =
    let n = c.loop-rest.number in
    let notes = map note_view c.loop-rest.notes.items in
    sym c.loop-rest.invariant.left ∙ (ap (notes_from n notes) c.next_line.ensures.cut
    ∙ no_note n notes c.next_line.result.0.now (lines_of c.next_line.result.1.now) (search rules))

pub returns-clause-ok : goal.returns-clause-ok
returns-clause-ok c =
    sym c.loop-rest.invariant.left ∙ all_lines c.loop-rest.number (map note_view c.loop-rest.notes.items) c.loop-rest.rest.now
    (true-eqb _ 0 c.loop-rest-test.ensures)
