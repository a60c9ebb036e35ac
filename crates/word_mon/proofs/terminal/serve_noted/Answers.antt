use Rattle.std.proofs.Common.{◌∙◌, refl}
use Rattle.word_mon.specs.Notes.{notes_after}
use Rattle.word_mon.proofs.terminal.serve_noted.Goals as goal

pub returns-clause-noted : goal.returns-clause-noted
returns-clause-noted c =
    let first = c.args.terminal.now in
    record {
      view = c.view_after-terminal.ensures;
      notes = c.in_ok-note_line.ensures
          ∙ (λ i. notes_after c.serve.new.mon (c.placed_in-placed.ensures i) (c.regs-pc.ensures i).pc c.args.line.now first.notes.items);
      loaded = refl;
      words = refl;
      answered = refl;
    }
