use Rattle.std.proofs.Common.{◌≡◌, ◌∙◌, ap, subst, sym}
use Rattle.model.specs.declared.registers.Regs.{Regs}
use Rattle.word_mon.proofs.Filed.{both_say}
use Rattle.word_mon.proofs.LinesServed.{rests_same}
use Rattle.word_mon.specs.Attended.{ServesLine, ServesRead}
use Rattle.word_mon.specs.Screens.{IsKept, meant}
use Rattle.mon_dispatch.specs.Lines.{Says, read_at}
use Rattle.mon_lines.specs.Lines.{SeenLine, line_view, seen_line}
use Rattle.mon_session.specs.declared.mon_state.MonState.{MonState}
use Rattle.word_mon.proofs.terminal.serve_line.Goals as goal

pub returns-clause-served : goal.returns-clause-served
unfolding ServesLine
returns-clause-served g c =
    let line = c.args.line.now in
    let first = c.args.terminal.now in
    let between = c.serve_noted.new.terminal in
    let done = c.obey_read.new.terminal in
    let last = c.keep_answer.new.terminal in
    let is_over = c.in_ok-is_over.is_over in
    let read = line_view c.new-read.result in
    let answers = rw c.in_ok-is_over.ensures.made at c.serve_noted.ensures.served in
    let noted = rw c.in_ok-is_over.ensures.made at c.serve_noted.ensures.noted in
    let obeyed = c.in_ok-obey_read.ensures.obeyed in
    let said = both_say read is_over first between done answers obeyed in
    let kept : IsKept done last = record {
      answered = c.in_ok-keep_answer.ensures.answered;
      mon = c.keep_answer.ensures.mon;
      view = c.keep_answer.ensures.view;
      notes = c.keep_answer.ensures.notes;
      loaded = c.keep_answer.ensures.loaded;
      words = c.keep_answer.ensures.words;
    } in
    let same : read ≡ read_at first.mon (meant first line) = c.new-read.ensures
    ∙ (λ i. seen_line first.mon.places ((ap (λ (regs : Regs). regs.pc) c.regs-pc.ensures) i) (c.meant_at-typed.ensures i)) in (
      said.0,
      subst (λ (r : SeenLine). ServesRead r line is_over first last said.0) same (between, answers, noted, done, obeyed, said.1, last, kept, rests_same last),
      subst (λ (m : MonState). Says said.0 first.mon m) (sym c.keep_answer.ensures.mon) said.1,
    )
