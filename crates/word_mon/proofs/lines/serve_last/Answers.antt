use Rattle.std.proofs.Common.{◌∙◌, ◌++◌, [], ap, append_assoc, append-nil, false, inl, inr, refl, sym, subst, ◌<◌, length}
use Rattle.std.proofs.lemmas.Bool.{eqb-false, eqb-true}
use Rattle.std.proofs.lemmas.Result.{IfErr-weaker, IfOk-weaker}
use Rattle.std.specs.Io.KnownBytes.{Appends}
use Rattle.model.specs.Writers.{AppendsFront}
use Rattle.word_mon.specs.Attended.{line_end_of, prompt_of}
use Rattle.word_mon.proofs.Pieces.{ends_line, ends_none, if_err_anyway, length_some, length_zero, shown_on}
use Rattle.word_mon.proofs.lines.serve_last.Goals as goal
use Rattle.word_mon.proofs.LinesServed.{plain_line, rests_same}
use Rattle.word_mon.specs.Pieces.{BreaksEnd}
use Rattle.word_mon.specs.Screens.{without_screen}
use Rattle.std.specs.Io.BufRead.{strip_last}

pub returns-then-is_empty-clause-served : goal.returns-then-is_empty-clause-served
returns-then-is_empty-clause-served g c =
    let kept = c.args.begun.now.items in
    let first = c.args.terminal.now in
    let prompt = prompt_of c.args.prompts in
    let line_end = line_end_of c.args.prompts in
    let between = c.say_if.new.terminal in
    let last = c.put_text.new.terminal in
    let none = length_zero kept (eqb-true _ _ (sym c.if-is_empty.ensures)) in
    IfOk-weaker c.put_text.result _ _ (λ _ wrote. (
      [],
      subst (Appends (g.W.Write.contents c.args.writer.now) (g.W.Write.contents c.put_text.new.writer))
          (c.in_ok-say_if.ensures.said ∙ ap (λ t. first.mon.text.items ++ t) (sym (append-nil line_end))) wrote,
      λ told begun before s. (
        false,
        ends_none prompt told kept begun between before
            (shown_on prompt told kept begun first before s between c.say_if.ensures.rests) line_end last none c.put_text.ensures.rests,
      ),
    )) c.put_text.ensures.written

pub returns-clause-served : goal.returns-clause-served
returns-clause-served g c =
    let kept = c.args.begun.now.items in
    let first = c.args.terminal.now in
    let prompt = prompt_of c.args.prompts in
    let line_end = line_end_of c.args.prompts in
    let between = c.say_if.new.terminal in
    let last = c.serve_begun.new.terminal in
    let is_over = c.in_ok-serve_begun.field-0 in
    let served = c.in_ok-serve_begun.ensures.served in
    let said = served.0 in
    let some : 0 < length kept = length_some kept (eqb-false _ _ (sym c.if-is_empty.ensures)) in (
      said,
      subst (Appends (g.W.Write.contents c.args.writer.now) (g.W.Write.contents c.serve_begun.new.writer))
          (plain_line (strip_last 13 kept) is_over (without_screen between) last said (between.mon.text.items ++ said) refl served.1
          ∙ ap (λ t. t ++ said) c.in_ok-say_if.ensures.said ∙ append_assoc first.mon.text.items line_end said)
          served.2,
      λ told begun before s. (
        is_over,
        ends_line prompt told kept begun between before (shown_on prompt told kept begun first before s between c.say_if.ensures.rests) line_end
            is_over last said some served.1,
      ),
    )

pub returns-in_err-say_if-clause-broken : goal.returns-in_err-say_if-clause-broken
returns-in_err-say_if-clause-broken g c = if_err_anyway _ _ (inl refl)

pub returns-then-is_empty-clause-broken : goal.returns-then-is_empty-clause-broken
returns-then-is_empty-clause-broken g c =
    let kept = c.args.begun.now.items in
    let first = c.args.terminal.now in
    let prompt = prompt_of c.args.prompts in
    let line_end = line_end_of c.args.prompts in
    let between = c.say_if.new.terminal in
    let none = length_zero kept (eqb-true _ _ (sym c.if-is_empty.ensures)) in
    IfErr-weaker c.put_text.result _ _ (λ _ begun. inr (
      [],
      subst (AppendsFront (g.W.Write.contents c.args.writer.now) (g.W.Write.contents c.put_text.new.writer))
          (c.in_ok-say_if.ensures.said ∙ ap (λ t. first.mon.text.items ++ t) (sym (append-nil line_end))) begun,
      λ told start before s. (
        false,
        without_screen between,
        ends_none prompt told kept start between before (shown_on prompt told kept start first before s between c.say_if.ensures.rests) line_end
            (without_screen between) none (rests_same (without_screen between)),
      ),
    )) c.put_text.ensures.begun

pub returns-in_err-serve_begun-clause-broken : goal.returns-in_err-serve_begun-clause-broken
returns-in_err-serve_begun-clause-broken g c =
    let kept = c.args.begun.now.items in
    let first = c.args.terminal.now in
    let prompt = prompt_of c.args.prompts in
    let line_end = line_end_of c.args.prompts in
    let between = c.say_if.new.terminal in
    let some : 0 < length kept = length_some kept (eqb-false _ _ (sym c.if-is_empty.ensures)) in
    let broken : BreaksEnd prompt line_end kept first (g.W.Write.contents c.args.writer.now) (g.W.Write.contents c.serve_begun.new.writer)
    = elim c.in_err-serve_begun.ensures.broken [
      | inl same ↦ inl same
      | inr p ↦ inr (
        p.2,
        subst (AppendsFront (g.W.Write.contents c.args.writer.now) (g.W.Write.contents c.serve_begun.new.writer))
            (plain_line (strip_last 13 kept) p.0 (without_screen between) p.1 p.2 (between.mon.text.items ++ p.2) refl p.3
            ∙ ap (λ t. t ++ p.2) c.in_ok-say_if.ensures.said ∙ append_assoc first.mon.text.items line_end p.2)
            p.4,
        λ told start before s. (
          p.0,
          p.1,
          ends_line prompt told kept start between before (shown_on prompt told kept start first before s between c.say_if.ensures.rests) line_end
              p.0 p.1 p.2 some p.3,
        ),
      )
    ] in
    if_err_anyway _ _ broken
