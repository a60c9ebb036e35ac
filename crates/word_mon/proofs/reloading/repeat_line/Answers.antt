use Rattle.std.proofs.Common.{◌≡◌, ◌∙◌, Result, ap, subst}
use Rattle.word_mon.proofs.Again.{on_ok_map}
use Rattle.word_mon.specs.Notes.{notes_after, placed_in}
use Rattle.mon_dispatch.specs.Lines.{Follows}
use Rattle.mon_lines.specs.Lines.{SeenCommand, SeenLine, SeenSlip, asked_view, line_of, seen_line}
use Rattle.word_mon.proofs.reloading.repeat_line.Goals as goal

pub returns : goal.returns
returns c =
    let note = c.args.noted.now in
    let first = c.args.mon.now in
    let last = c.follow.new.mon in
    let outcome = c.in_ok-follow.field-0 in
    let places = c.args.mon.now.places in
    let read : asked_view c.new-read.result.asked ≡ line_of places note.pc note.line
    = ap (λ (line : SeenLine). line.asked) (c.new-read.ensures ∙ (λ i. seen_line places (c.pc-pc.ensures i) (c.line-line.ensures i))) in
    on_ok_map c.note_line.result _ _
    (λ noted. (
      outcome,
      subst (λ (asked : Result SeenCommand SeenSlip). Follows asked outcome first last) read c.in_ok-follow.ensures,
      noted ∙ (λ i. notes_after last ((c.placed_in-placed.ensures ∙ ap placed_in read) i) (c.pc-pc.ensures i) (c.line-line.ensures i) c.args.notes.now.items),
    ))
    c.note_line.ensures
