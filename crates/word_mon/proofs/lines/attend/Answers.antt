use Rattle.std.proofs.KnownBytes.{Appends-trans, Consumes-kept, Consumes-nil, Consumes-trans}
use Rattle.std.proofs.Common.{◌∙◌, ℕ, List, [], ◌++◌, Option, ap, append_assoc, append-nil, arith, inl, inr, refl, subst, sym, take, true}
use Rattle.std.proofs.lemmas.Result.{IfErr-weaker, IfOk-weaker}
use Rattle.std.specs.Io.KnownBytes.{Appends, Consumes}
use Rattle.model.specs.TextLines.{ended_lines_of, no_line}
use Rattle.model.specs.Writers.{AppendsFront}
use Rattle.model.proofs.Written.{front_after, front_none}
use Rattle.word_mon.specs.Attended.{AttendsInPart, ServesLines, line_end_of, prompt_of}
use Rattle.word_mon.specs.Pieces.{GoesOn}
use Rattle.word_mon.proofs.Pieces.{all_some, begins, front_all, if_err_anyway, shown_on, so_far, some_none}
use Rattle.word_mon.proofs.LinesServed.{rests_then}
use Rattle.word_mon.proofs.lines.attend.Goals as goal

pub loop-init : goal.loop-init
loop-init g c =
    let first = c.args.terminal.now in
    let prompt = prompt_of c.args.prompts in (
      [],
      Consumes-nil _,
      [],
      subst (λ k. GoesOn prompt [] k first c.put_text.new.terminal []) (sym c.new-begun.ensures)
          (shown_on prompt [] [] first first [] (begins prompt first) c.put_text.new.terminal
          (rests_then first c.say_if.new.terminal c.put_text.new.terminal c.say_if.ensures.rests c.put_text.ensures.rests)),
      subst (Appends (g.W.Write.contents c.args.writer.now) (g.W.Write.contents c.put_text.new.writer))
          (c.in_ok-say_if.ensures.said ∙ ap (λ t. first.mon.text.items ++ t) (sym (append-nil prompt))) c.in_ok-put_text.ensures.written,
      c.in_ok-put_text.ensures.cleared,
    )

pub returns-in-Ok-eq0-clause-attended : goal.returns-in-Ok-eq0-clause-attended
returns-in-Ok-eq0-clause-attended g c =
    let inv = c.loop.invariant in
    let prompt = prompt_of c.args.prompts in
    let line_end = line_end_of c.args.prompts in
    let old = c.args.terminal.now.mon.text.items in
    let bytes = rw c.in-Ok-eq0.field-0-test at c.in-Ok-eq0.ensures.bytes in
    let told = subst (Consumes (g.R.Read.remaining c.args.reader.now) (g.R.Read.remaining c.read.new.self)) (append-nil inv.0)
    (Consumes-trans _ _ _ inv.0 [] inv.1 bytes.0) in
    IfOk-weaker c.serve_last.result _ _
    (λ _ h. let s = h.2 inv.0 c.args.terminal.now inv.2 inv.3 in (
      prompt ++ (inv.2 ++ (line_end ++ h.0)),
      (inv.0, told, inv.2 ++ (line_end ++ h.0), refl, inr (s.0, bytes.1 refl (omega arith), s.1)),
      subst (Appends (g.W.Write.contents c.args.writer.now) (g.W.Write.contents c.serve_last.new.writer))
          (ap (λ t. (old ++ (prompt ++ inv.2)) ++ (t ++ (line_end ++ h.0))) inv.5 ∙ append_assoc old (prompt ++ inv.2) (line_end ++ h.0)
          ∙ ap (λ t. old ++ t) (append_assoc prompt inv.2 (line_end ++ h.0)))
          (Appends-trans _ _ _ (old ++ (prompt ++ inv.2)) (c.loop.terminal.mon.text.items ++ (line_end ++ h.0)) inv.4 h.1),
    )) c.serve_last.ensures.served

pub returns-then-branch-clause-attended : goal.returns-then-branch-clause-attended
returns-then-branch-clause-attended g c =
    let inv = c.loop.invariant in
    let prompt = prompt_of c.args.prompts in
    let old = c.args.terminal.now.mon.text.items in
    let bs = take c.in-Ok.n c.read.new.buf in
    let over = rw c.if-branch.true at c.in_ok-serve_bytes-in-Ok.ensures.fed in
    let written = inv.2 ++ over.0 in (
      prompt ++ written,
      (
        inv.0 ++ bs,
        Consumes-trans _ _ _ inv.0 bs inv.1 c.in-Ok.ensures.bytes.0,
        written,
        refl,
        inl (subst (λ l. ServesLines prompt (ended_lines_of l) true c.args.terminal.now c.serve_bytes.new.terminal written) (append-nil (inv.0 ++ bs))
            (over.1 inv.0 c.args.terminal.now inv.2 inv.3 no_line [])),
      ),
      subst (Appends (g.W.Write.contents c.args.writer.now) (g.W.Write.contents c.serve_bytes.new.writer))
          (append_assoc old (prompt ++ inv.2) over.0 ∙ ap (λ t. old ++ t) (append_assoc prompt inv.2 over.0))
          (Appends-trans _ _ _ (old ++ (prompt ++ inv.2)) over.0 inv.4 (over.2 inv.5)),
    )

pub returns-in-Err-clause-unread : goal.returns-in-Err-clause-unread
returns-in-Err-clause-unread g c _ =
    let inv = c.loop.invariant in
    let prompt = prompt_of c.args.prompts in (
      prompt ++ inv.2,
      (
        inv.0,
        Consumes-kept _ _ _ _ inv.1 c.in-Err.ensures.bytes,
        inv.2,
        refl,
        so_far prompt inv.0 c.loop.begun.items c.args.terminal.now
            c.loop.terminal inv.2 inv.3,
      ),
      inv.4,
    )

pub loop-preserved : goal.loop-preserved
loop-preserved g c =
    let inv = c.loop.invariant in
    let prompt = prompt_of c.args.prompts in
    let old = c.args.terminal.now.mon.text.items in
    let bs = take c.in-Ok.n c.read.new.buf in
    let fed = rw c.if-branch.false at c.in_ok-serve_bytes-in-Ok.ensures.fed in (
      inv.0 ++ bs,
      Consumes-trans _ _ _ inv.0 bs inv.1 c.in-Ok.ensures.bytes.0,
      inv.2 ++ fed.0,
      fed.1 inv.0 c.args.terminal.now inv.2 inv.3,
      subst (Appends (g.W.Write.contents c.args.writer.now) (g.W.Write.contents c.serve_bytes.new.writer))
          (append_assoc old (prompt ++ inv.2) fed.0 ∙ ap (λ t. old ++ t) (append_assoc prompt inv.2 fed.0))
          (Appends-trans _ _ _ (old ++ (prompt ++ inv.2)) fed.0 inv.4 (fed.2 inv.5)),
      c.in_ok-serve_bytes-in-Ok.ensures.written inv.5,
    )

pub returns-clause-unread : goal.returns-clause-unread
returns-clause-unread g c _ =
    let inv = c.loop.invariant in
    let prompt = prompt_of c.args.prompts in (
      prompt ++ inv.2,
      (inv.0, inv.1, inv.2, refl, so_far prompt inv.0 c.loop.begun.items c.args.terminal.now c.loop.terminal inv.2 inv.3),
      inv.4,
    )

-- ---- a failure

pub returns-in_err-say_if-clause-broken : goal.returns-in_err-say_if-clause-broken
returns-in_err-say_if-clause-broken g c =
    let first = c.args.terminal.now in
    let prompt = prompt_of c.args.prompts in
    let none : AttendsInPart c.args.prompts first.mon.text.items first (g.R.Read.remaining c.args.reader.now) (g.R.Read.remaining c.args.reader.now)
    (g.W.Write.contents c.args.writer.now) (g.W.Write.contents c.args.writer.now)
    = (first, prompt ++ [], ([], Consumes-nil _, [], refl, inl (some_none prompt first)), front_none _ _) in
    if_err_anyway _ _ none

pub returns-in_err-put_text-clause-broken : goal.returns-in_err-put_text-clause-broken
returns-in_err-put_text-clause-broken g c =
    let first = c.args.terminal.now in
    let prompt = prompt_of c.args.prompts in
    let begun : AttendsInPart c.args.prompts first.mon.text.items first (g.R.Read.remaining c.args.reader.now) (g.R.Read.remaining c.args.reader.now)
    (g.W.Write.contents c.args.writer.now) (g.W.Write.contents c.put_text.new.writer) = (
      first,
      prompt ++ [],
      ([], Consumes-nil _, [], refl, inl (some_none prompt first)),
      subst (AppendsFront (g.W.Write.contents c.args.writer.now) (g.W.Write.contents c.put_text.new.writer))
          (c.in_ok-say_if.ensures.said ∙ ap (λ t. first.mon.text.items ++ t) (sym (append-nil prompt))) c.in_err-put_text.ensures.begun,
    ) in
    if_err_anyway _ _ begun

pub returns-in-Ok-eq0-clause-broken : goal.returns-in-Ok-eq0-clause-broken
returns-in-Ok-eq0-clause-broken g c =
    let inv = c.loop.invariant in
    let first = c.args.terminal.now in
    let prompt = prompt_of c.args.prompts in
    let line_end = line_end_of c.args.prompts in
    let old = first.mon.text.items in
    let bytes = rw c.in-Ok-eq0.field-0-test at c.in-Ok-eq0.ensures.bytes in
    let told = subst (Consumes (g.R.Read.remaining c.args.reader.now) (g.R.Read.remaining c.read.new.self)) (append-nil inv.0)
    (Consumes-trans _ _ _ inv.0 [] inv.1 bytes.0) in
    IfErr-weaker c.serve_last.result _ _ (λ _ b. elim b [
      | inl same ↦ (
        c.loop.terminal,
        prompt ++ inv.2,
        (inv.0, told, inv.2, refl, inl (all_some prompt inv.0 c.loop.begun.items first c.loop.terminal inv.2 inv.3)),
        subst (λ (x : Option (List ℕ)). AppendsFront (g.W.Write.contents c.args.writer.now) x (old ++ (prompt ++ inv.2))) (sym same)
            (front_all _ _ (old ++ (prompt ++ inv.2)) inv.4),
      )
      | inr h ↦
          let s = h.2 inv.0 first inv.2 inv.3 in (
            s.1,
            prompt ++ (inv.2 ++ (line_end ++ h.0)),
            (inv.0, told, inv.2 ++ (line_end ++ h.0), refl, inr (s.0, bytes.1 refl (omega arith), s.2)),
            subst (AppendsFront (g.W.Write.contents c.args.writer.now) (g.W.Write.contents c.serve_last.new.writer))
                (ap (λ t. (old ++ (prompt ++ inv.2)) ++ (t ++ (line_end ++ h.0))) inv.5 ∙ append_assoc old (prompt ++ inv.2) (line_end ++ h.0)
                ∙ ap (λ t. old ++ t) (append_assoc prompt inv.2 (line_end ++ h.0)))
                (front_after _ _ _ (old ++ (prompt ++ inv.2)) (c.loop.terminal.mon.text.items ++ (line_end ++ h.0)) inv.4 h.1),
          )
    ]) c.serve_last.ensures.broken

pub returns-in_err-serve_bytes-in-Ok-clause-broken : goal.returns-in_err-serve_bytes-in-Ok-clause-broken
returns-in_err-serve_bytes-in-Ok-clause-broken g c =
    let inv = c.loop.invariant in
    let first = c.args.terminal.now in
    let prompt = prompt_of c.args.prompts in
    let old = first.mon.text.items in
    let bs = take c.in-Ok.n c.read.new.buf in
    let broken = c.in_err-serve_bytes-in-Ok.ensures.broken in
    let s = broken.1 inv.0 first inv.2 inv.3 in
    let written = inv.2 ++ broken.0 in
    let all : AttendsInPart c.args.prompts first.mon.text.items first (g.R.Read.remaining c.args.reader.now) (g.R.Read.remaining c.read.new.self)
    (g.W.Write.contents c.args.writer.now) (g.W.Write.contents c.serve_bytes.new.writer) = (
      s.0,
      prompt ++ written,
      (inv.0 ++ bs, Consumes-trans _ _ _ inv.0 bs inv.1 c.in-Ok.ensures.bytes.0, written, refl, inl s.1),
      subst (AppendsFront (g.W.Write.contents c.args.writer.now) (g.W.Write.contents c.serve_bytes.new.writer))
          (append_assoc old (prompt ++ inv.2) broken.0 ∙ ap (λ t. old ++ t) (append_assoc prompt inv.2 broken.0))
          (front_after _ _ _ (old ++ (prompt ++ inv.2)) broken.0 inv.4 (broken.2 inv.5)),
    ) in
    if_err_anyway _ _ all

pub returns-in-Err-clause-broken : goal.returns-in-Err-clause-broken
returns-in-Err-clause-broken g c =
    let inv = c.loop.invariant in
    let first = c.args.terminal.now in
    let prompt = prompt_of c.args.prompts in (
      c.loop.terminal,
      prompt ++ inv.2,
      (
        inv.0,
        Consumes-kept _ _ _ _ inv.1 c.in-Err.ensures.bytes,
        inv.2,
        refl,
        inl (all_some prompt inv.0 c.loop.begun.items first c.loop.terminal inv.2 inv.3),
      ),
      front_all _ _ (first.mon.text.items ++ (prompt ++ inv.2)) inv.4,
    )

pub returns-clause-broken : goal.returns-clause-broken
returns-clause-broken g c =
    let inv = c.loop.invariant in
    let first = c.args.terminal.now in
    let prompt = prompt_of c.args.prompts in (
      c.loop.terminal,
      prompt ++ inv.2,
      (inv.0, inv.1, inv.2, refl, inl (all_some prompt inv.0 c.loop.begun.items first c.loop.terminal inv.2 inv.3)),
      front_all _ _ (first.mon.text.items ++ (prompt ++ inv.2)) inv.4,
    )
