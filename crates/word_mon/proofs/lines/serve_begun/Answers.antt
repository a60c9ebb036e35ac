use Rattle.std.proofs.Common.{◌∙◌, ◌++◌, ℕ, List, ap, inl, inr, refl, subst, sym}
use Rattle.std.specs.Io.BufRead.{strip_last}
use Rattle.std.specs.Io.KnownBytes.{Appends}
use Rattle.model.specs.Writers.{AppendsFront}
use Rattle.word_mon.specs.Attended.{ServesLine, prompt_of}
use Rattle.word_mon.specs.Screens.{answer_text}
use Rattle.mon_dispatch.specs.Lines.{Says}
use Rattle.word_mon.proofs.LinesServed.{answer_same, line_then, rests_then}
use Rattle.word_mon.proofs.Pieces.{if_err_anyway}
use Rattle.word_mon.proofs.lines.serve_begun.Goals as goal

pub returns-clause-served : goal.returns-clause-served
returns-clause-served g c =
    let first = c.args.terminal.now in
    let after = c.serve_line.new.terminal in
    let last = c.put_text.new.terminal in
    let is_over = c.in_ok-is_over.is_over in
    let kept = c.args.begun.now.items in
    let prompt = prompt_of c.args.prompts in
    let line = subst (λ l. (said : List ℕ) × ServesLine l is_over first after said × Says said first.mon after.mon) c.line_of.ensures
    c.in_ok-is_over.ensures.served in
    let rests = rests_then after c.answer.new.terminal last c.answer.ensures.rests c.put_text.ensures.rests in (
      line.0,
      line_then (strip_last 13 kept) is_over first after last line.0 line.1 rests,
      subst (Appends (g.W.Write.contents c.args.writer.now) (g.W.Write.contents c.put_text.new.writer))
          (c.in_ok-answer.ensures.said ∙ ap (answer_text is_over prompt after) line.2
          ∙ sym (answer_same is_over prompt after last (first.mon.text.items ++ line.0) rests))
          c.in_ok-put_text.ensures.written,
    )

pub returns-in_err-is_over-clause-broken : goal.returns-in_err-is_over-clause-broken
returns-in_err-is_over-clause-broken g c = if_err_anyway _ _ (inl refl)

pub returns-in_err-answer-clause-broken : goal.returns-in_err-answer-clause-broken
returns-in_err-answer-clause-broken g c = if_err_anyway _ _ (inl refl)

pub returns-in_err-put_text-clause-broken : goal.returns-in_err-put_text-clause-broken
returns-in_err-put_text-clause-broken g c =
    let first = c.args.terminal.now in
    let after = c.serve_line.new.terminal in
    let is_over = c.in_ok-is_over.is_over in
    let prompt = prompt_of c.args.prompts in
    let line = subst (λ l. (said : List ℕ) × ServesLine l is_over first after said × Says said first.mon after.mon) c.line_of.ensures
    c.in_ok-is_over.ensures.served in
    if_err_anyway _ _ (inr (
      is_over,
      after,
      line.0,
      line.1,
      subst (AppendsFront (g.W.Write.contents c.args.writer.now) (g.W.Write.contents c.put_text.new.writer))
          (c.in_ok-answer.ensures.said ∙ ap (answer_text is_over prompt after) line.2) c.in_err-put_text.ensures.begun,
    ))
