-- Lines that are served one after another.
use Rattle.std.proofs.Common.{◌≡◌, ◌≤◌, ◌<◌, ◌∙◌, ℕ, ◌-◌, ◌+◌, Bool, true, false, cond, List, [], ◌∷◌, ◌++◌, append_assoc, append-nil, Option, None, Some, Err, inl, inr, refl, sym, ap, subst, length, take, arith, length-take, true≢false}
use Rattle.std.proofs.lemmas.Bool.{cases_lt, lt-ltb}
use Rattle.std.proofs.lemmas.List.{take_all}
use Rattle.std.specs.Io.BufRead.{ends_with_byte, strip_last}
use Rattle.model.specs.TextLines.{ended_lines_of}
use Rattle.word_mon.specs.Attended.{IsAttended, IsAttendedInPart, IsAttendedSoFar, IsNoted, ServesLine, ServesLines, ServesRead, prompt_of}
use Rattle.mon_line_parts.specs.Reading.{after_word, long, skip, word_of}
use Rattle.mon_lines.specs.Lines.{SeenLine, decimal_address, decimal_behind, line_from, line_of}
use Rattle.word_mon.proofs.Filed.{obeys_view}
use Rattle.word_mon.specs.Screens.{Rests, answer_text, drawn, meant, without_screen}
use Rattle.word_mon.specs.Views.{IsViewAfter, has_pages_of, meant_by}
use Rattle.word_mon.specs.declared.terminal.Terminal.{Terminal}
use Rattle.mon_screen.specs.View.{view_text}
use Rattle.mon_screen.specs.declared.view.View.{View}
use Rattle.mon_dispatch.specs.Lines.{read_at}
use Rattle.mon_session.specs.Course.{ShowsOnly}
use Rattle.mon_session.specs.declared.mon_state.MonState.{MonState}

pub shows_then : (a b c : MonState) → ShowsOnly a b → ShowsOnly b c → ShowsOnly a c
shows_then a b c p q = (q.0 ∙ p.0, q.1 ∙ p.1, q.2 ∙ p.2, q.3 ∙ p.3, q.4 ∙ p.4)

pub shows_same : (a : MonState) → ShowsOnly a a
shows_same a = (refl, refl, refl, refl, refl)

pub rests_then : (a b c : Terminal) → Rests a b → Rests b c → Rests a c
rests_then a b c p q =
    (shows_then a.mon b.mon c.mon p.0 q.0, q.1 ∙ p.1, q.2 ∙ p.2, q.3 ∙ p.3, q.4 ∙ p.4, q.5 ∙ p.5)

pub rests_same : (a : Terminal) → Rests a a
rests_same a = (shows_same a.mon, refl, refl, refl, refl, refl)

-- a screen is the same where only the text has changed
drawn_by : (view : Option View) (a b : MonState) (text : List ℕ) → ShowsOnly a b
    → drawn view b text ≡ drawn view a text
drawn_by None a b text p = refl
drawn_by (Some view) a b text p = λ i. view_text view (p.0 i).current (p.3 i) text

pub drawn_same : (a b : Terminal) (text : List ℕ) → Rests a b
    → drawn b.view b.mon text ≡ drawn a.view a.mon text
drawn_same a b text p = ap (λ v. drawn v b.mon text) p.1 ∙ drawn_by a.view a.mon b.mon text p.0

pub answer_same : (is_over : Bool) (prompt : List ℕ) (a b : Terminal) (said : List ℕ) → Rests a b
    → answer_text is_over prompt b said ≡ answer_text is_over prompt a said
answer_same true prompt a b said p = refl
answer_same false prompt a b said p = ap (λ t. t ++ prompt) (drawn_same a b said p)

-- what is written first
pub opened : (view : Option View) (a b : MonState) (t0 t1 t2 said state also : List ℕ) → ShowsOnly a b
    → t1 ≡ t0 ++ said → t2 ≡ t1 ++ also → also ≡ state
    → drawn view b t2 ≡ drawn view a (t0 ++ (said ++ state))
opened view a b t0 t1 t2 said state also p first second same = drawn_by view a b t2 p
    ∙ ap (drawn view a) (second ∙ (λ i. first i ++ same i) ∙ append_assoc t0 said state)

-- where no screen is drawn, what is said is written
pub plain_answer : (is_over : Bool) (terminal : Terminal) (said : List ℕ) → terminal.view ≡ None
    → answer_text is_over [] terminal said ≡ said
plain_answer true terminal said none = refl
plain_answer false terminal said none = ap (λ v. drawn v terminal.mon said ++ []) none ∙ append-nil said

-- where no screen is drawn, no line draws one
plain_view : (line : List ℕ) (is_over : Bool) (a b : Terminal) (said : List ℕ) → a.view ≡ None
    → ServesLine line is_over a b said → b.view ≡ None
unfolding ServesLine
plain_view line is_over a b said none p =
    let asked = (read_at a.mon (meant a line)).asked in
    p.8.1 ∙ p.7.view ∙ obeys_view asked p.0 p.3 p.4
    ∙ subst (λ (view : Option View). IsViewAfter asked a.mon view p.0.view) none p.2.view

pub plain_line : (line : List ℕ) (is_over : Bool) (a b : Terminal) (said text : List ℕ) → a.view ≡ None
    → ServesLine line is_over a b said → answer_text is_over [] b text ≡ text
plain_line line is_over a b said text none p =
    plain_answer is_over b text (plain_view line is_over a b said none p)

-- only the text changes after a line
pub line_then : (line : List ℕ) (is_over : Bool) (a b c : Terminal) (said : List ℕ)
    → ServesLine line is_over a b said → Rests b c → ServesLine line is_over a c said
unfolding ServesLine
line_then line is_over a b c said p q =
    (p.0, p.1, p.2, p.3, p.4, p.5, p.6, p.7, rests_then p.6 b c p.8 q)

pub lines_then : (prompt : List ℕ) (lines : List (List ℕ)) (is_over : Bool) (a b c : Terminal)
    (w : List ℕ) → ServesLines prompt lines is_over a b w → Rests b c
    → ServesLines prompt lines is_over a c w
unfolding ServesLines
lines_then prompt [] is_over a b c w p q = (p.0, rests_then a b c p.1 q, p.2)
lines_then prompt (line ∷ lines) is_over a b c w p q = (
  p.0,
  p.1,
  p.2,
  elim p.3 [
    | inl h ↦ inl (h.0, line_then line true p.0 b c p.2 h.1 q, h.2)
    | inr h ↦ inr (h.0, h.1, h.2, lines_then prompt lines is_over h.0 b c h.1 h.3 q, h.4)
  ],
)

-- what is shown before lines
pub shows_lines : (prompt : List ℕ) (lines : List (List ℕ)) (is_over : Bool) (a b c : Terminal)
    (w : List ℕ) → Rests a b → ServesLines prompt lines is_over b c w
    → ServesLines prompt lines is_over a c w
unfolding ServesLines
shows_lines prompt [] is_over a b c w p q = (q.0, rests_then a b c p q.1, q.2)
shows_lines prompt (line ∷ lines) is_over a b c w p q
    = (q.0, rests_then a b q.0 p q.1, q.2, q.3)

pub shows_attended : (prompts : Bool) (given left : Option (List ℕ)) (a b c : Terminal) (w : List ℕ)
    → Rests a b → IsAttended prompts given left b c w → IsAttended prompts given left a c w
shows_attended prompts given left a b c w p q = (
  q.0,
  q.1,
  q.2,
  q.3,
  elim q.4 [
    | inl over ↦ inl (shows_lines (prompt_of prompts) (ended_lines_of q.0) true a b c q.2 p over)
    | inr all ↦
        let e = all.2 in
        let served = shows_lines (prompt_of prompts) (ended_lines_of q.0) false a b e.2 e.3 p e.5 in
        inr (all.0, all.1, (e.0, e.1, e.2, e.3, e.4, served, e.6, e.7))
  ],
)

pub shows_so_far : (prompts : Bool) (given left : Option (List ℕ)) (a b c : Terminal) (w : List ℕ)
    → Rests a b → IsAttendedSoFar prompts given left b c w
    → IsAttendedSoFar prompts given left a c w
shows_so_far prompts given left a b c w p q = (
  q.0,
  q.1,
  q.2,
  q.3,
  shows_lines (prompt_of prompts) (ended_lines_of q.0) false a b c q.2 p q.4,
)

pub shows_in_part : (prompts : Bool) (given left : Option (List ℕ)) (a b c : Terminal) (w : List ℕ)
    → Rests a b → IsAttendedInPart prompts given left b c w
    → IsAttendedInPart prompts given left a c w
shows_in_part prompts given left a b c w p q = (
  q.0,
  q.1,
  q.2,
  q.3,
  elim q.4 [
    | inl some ↦ inl (some.0, some.1, some.2, some.3, shows_lines (prompt_of prompts) some.0 some.3 a b c q.2 p some.4)
    | inr all ↦
        let e = all.2 in
        let served = shows_lines (prompt_of prompts) (ended_lines_of q.0) false a b e.2 e.3 p e.5 in
        inr (all.0, all.1, (e.0, e.1, e.2, e.3, e.4, served, e.6, e.7))
  ],
)

-- lines of which none ends the session, and then more of them
pub lines_more : (prompt : List ℕ) (lines more : List (List ℕ)) (is_over : Bool) (a b c : Terminal)
    (w v : List ℕ) → ServesLines prompt lines false a b w → ServesLines prompt more is_over b c v
    → ServesLines prompt (lines ++ more) is_over a c (w ++ v)
unfolding ServesLines
lines_more prompt [] more is_over a b c w v p q =
    subst (λ x. ServesLines prompt more is_over a c (x ++ v)) (sym p.2)
    (shows_lines prompt more is_over a b c v p.1 q)
lines_more prompt (line ∷ lines) more is_over a b c w v p q = (
  p.0,
  p.1,
  p.2,
  elim p.3 [
    | inl h ↦ absurd (true≢false (sym h.0))
    | inr h ↦ inr (
      h.0,
      h.1 ++ v,
      h.2,
      lines_more prompt lines more is_over h.0 b c h.1 v h.3 q,
      ap (λ x. x ++ v) h.4 ∙ append_assoc (answer_text false prompt h.0 p.2) h.1 v,
    )
  ],
)

pub no_lines : (prompt : List ℕ) (a : Terminal) → ServesLines prompt [] false a a []
unfolding ServesLines
no_lines prompt a = (refl, rests_same a, refl)

-- at the end no line is left
pub none_served : (a b : Terminal) → Rests a b → ServesLines [] [] false a b []
unfolding ServesLines
none_served a b p = (refl, p, refl)

-- one line, and any after it if it ends the session
pub line_on : (prompt line : List ℕ) (a b : Terminal) (said : List ℕ) → ServesLine line false a b said
    → ServesLines prompt (line ∷ []) false a b (answer_text false prompt b said)
unfolding ServesLines
line_on prompt line a b said p = (
  a,
  rests_same a,
  said,
  inr (b, [], p, (refl, rests_same b, refl), sym (append-nil (answer_text false prompt b said))),
)

pub line_over : (prompt line : List ℕ) (lines : List (List ℕ)) (a b : Terminal) (said : List ℕ)
    → ServesLine line true a b said → ServesLines prompt (line ∷ lines) true a b said
unfolding ServesLines
line_over prompt line lines a b said p = (a, rests_same a, said, inl (refl, p, refl))

-- one line alone, where no screen is drawn
pub line_alone : (line : List ℕ) (is_over : Bool) (a b : Terminal) (said : List ℕ)
    → ServesLine line is_over (without_screen a) b said
    → ServesLines [] (line ∷ []) is_over (without_screen a) b said
line_alone line true a b said p = line_over [] line [] (without_screen a) b said p
line_alone line false a b said p =
    subst (λ x. ServesLines [] (line ∷ []) false (without_screen a) b x)
    (plain_line line false (without_screen a) b said said refl p)
    (line_on [] line (without_screen a) b said p)

-- ---- the beginning that is kept of a line

length-strip : (b : ℕ) (xs : List ℕ) → length xs ≤ length (strip_last b xs) + 1
length-strip b xs = by (ends_with_byte b xs)
  where
    by : (t : Bool) → length xs ≤ length (cond t (take (length xs - 1) xs) xs) + 1
    by true = omega (arith, length-take (length xs - 1) xs)
    by false = omega arith

-- what a line is read as that is too long
too_long : SeenLine
too_long = record { asked = Err (None, long); decimal = None }

read_long : (mon : MonState) (line : List ℕ) → 255 < length line → read_at mon line ≡ too_long
unfolding too_long line_of decimal_address
read_long mon line h =
    let read = line_from mon.places mon.session.current.regs.pc line (skip line) in
    let decimal = decimal_behind (skip line) (word_of (after_word (skip line))) in
    let by : Bool → SeenLine = λ t. record { asked = cond t (Err (None, long)) read; decimal = cond t None decimal } in
    ap by (lt-ltb 255 (length line) h)

-- a long line is meant as it is
meant_long : (has_pages : Bool) (line : List ℕ) → 255 < length line → meant_by has_pages line ≡ line
meant_long true [] h = absurd (omega (arith, h))
meant_long true (b ∷ []) h = absurd (omega (arith, h))
meant_long true (b ∷ c ∷ line) h = refl
meant_long false line h = refl

read_meant : (a : Terminal) (line : List ℕ) → 255 < length line
    → read_at a.mon (meant a line) ≡ too_long
read_meant a line h =
    ap (read_at a.mon) (meant_long (has_pages_of a.view a.answered.items) line h)
    ∙ read_long a.mon line h

-- it is not noted
noted_long : (kept line : List ℕ) (a b : Terminal) → IsNoted too_long.asked kept a b
    → IsNoted too_long.asked line a b
unfolding too_long
noted_long kept line a b n =
    record {
      view = n.view;
      notes = n.notes;
      loaded = n.loaded;
      words = n.words;
      answered = n.answered;
    }

-- what is kept is all of the line, or too long as the line is
pub line_kept : (begun : List ℕ) (is_over : Bool) (a b : Terminal) (said : List ℕ)
    → ServesLine (strip_last 13 (take 257 begun)) is_over a b said
    → ServesLine (strip_last 13 begun) is_over a b said
unfolding ServesLine
line_kept begun is_over a b said p = elim (cases_lt 257 (length begun)) [
  | inl more ↦
      let kept = strip_last 13 (take 257 begun) in
      let line = strip_last 13 begun in
      let kept_long : 255 < length (strip_last 13 (take 257 begun))
      = omega (arith, length-take 257 begun, length-strip 13 (take 257 begun)) in
      let line_long : 255 < length (strip_last 13 begun) = omega (arith, length-strip 13 begun) in
      let p = subst (λ (read : SeenLine). ServesRead read kept is_over a b said) (read_meant a kept kept_long) p in
      subst (λ (read : SeenLine). ServesRead read line is_over a b said) (sym (read_meant a line line_long))
      (p.0, p.1, noted_long kept line a p.0 p.2, p.3, p.4, p.5, p.6, p.7, p.8)
  | inr less ↦ subst (λ l. ServesLine (strip_last 13 l) is_over a b said) (take_all 257 begun less) p
]
