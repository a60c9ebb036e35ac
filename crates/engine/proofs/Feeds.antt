-- Bytes fed one after another are served as the lines that they make.
use Rattle.std.proofs.Common.{◌≡◌, ◌≢◌, ℕ, ◌+◌, ◌-◌, ◌<◌, ◌≤◌, Bool, true, false, cond, ltb, eqb, List, [], ◌∷◌, ◌++◌, refl, sym, ap, ◌∙◌, subst, append_assoc, append-nil, take, drop, length, arith, length-append, get_or, drop-cons, add-one, if◌then◌else◌, length-take, lt-ltb, inl, inr, true≢false}
use Rattle.std.proofs.lemmas.List.{take_all, take-append-le, drop_all}
use Rattle.std.proofs.lemmas.Bool.{le-ltb}
use Rattle.std.proofs.lemmas.Bool.Decides.{eqb_tells}
use Rattle.std.proofs.lemmas.Bool.{cases_lt}
use Rattle.std.proofs.lemmas.List.Elements.{All-nil, All-cons, All-append}
use Rattle.std.specs.List.{All}
use Rattle.std.specs.Io.BufRead.{ends_with_byte}
use Rattle.model.specs.declared.command.Command.{Command}
use Rattle.model.specs.declared.command.Command.TheVariants.{Bad, Quit}
use Rattle.std.specs.Io.BufRead.{strip_last}
use Rattle.model.specs.Session.{Session}
use Rattle.model.specs.Commands.{command_of}
use Rattle.model.specs.TextLines.{lines_from}
use Rattle.model.specs.Transcript.{Answer, answer_to, after_text, serving_after, serving}
use Rattle.engine.specs.Feeding.{Fed, fed, fed_after, fed_on, kept_with, feed}

-- what some bytes make of a line begun: lines of which none is `quit`, and another line begun
pub record Cuts (begun bytes more : List ℕ) : Type 0 where
  pub lines : List (List ℕ)
  pub cut : (ending : List ℕ → List (List ℕ)) (rest : List ℕ) → lines_from ending begun (bytes ++ rest) ≡ lines ++ lines_from ending more rest
  pub none : All (λ line. command_of line ≢ Quit) lines

cuts_nothing : (begun : List ℕ) → Cuts begun [] begun
cuts_nothing begun = record { lines = []; cut = λ ending rest. refl; none = All-nil (λ line. command_of line ≢ Quit) }

cuts_line : (begun bs more : List ℕ) → command_of (strip_last 13 begun) ≢ Quit → Cuts [] bs more → Cuts begun (10 ∷ bs) more
unfolding lines_from
cuts_line begun bs more stays c = record {
  lines = strip_last 13 begun ∷ c.lines;
  cut = λ ending rest. ap (λ l. strip_last 13 begun ∷ l) (c.cut ending rest);
  none = All-cons (λ line. command_of line ≢ Quit) (strip_last 13 begun) c.lines stays c.none;
}

cuts_byte : (begun bs more : List ℕ) (b : ℕ) → eqb b 10 ≡ false → Cuts (begun ++ b ∷ []) bs more → Cuts begun (b ∷ bs) more
unfolding lines_from
cuts_byte begun bs more b e c = record { lines = c.lines; cut = λ ending rest. rw e (c.cut ending rest); none = c.none }

pub cuts_then : (begun bs middle cs more : List ℕ) → Cuts begun bs middle → Cuts middle cs more → Cuts begun (bs ++ cs) more
cuts_then begun bs middle cs more c d = record {
  lines = c.lines ++ d.lines;
  cut = λ ending rest. ap (lines_from ending begun) (append_assoc bs cs rest) ∙ c.cut ending (cs ++ rest) ∙ ap (λ l. c.lines ++ l) (d.cut ending rest)
      ∙ sym (append_assoc c.lines d.lines (lines_from ending more rest));
  none = All-append (λ line. command_of line ≢ Quit) c.lines d.lines c.none d.none;
}

-- the bytes told were served up to the line begun, of which `kept` is the beginning: with more
-- bytes, and at either end, the transcript is the text so far and the transcript of what is left;
-- no line was `quit`
pub record ServesSoFar (start : Session) (told text : List ℕ) (s : Session) (kept : List ℕ) : Type 0 where
  pub begun : List ℕ
  pub front : kept ≡ take 257 begun
  pub goes_on : (ending : List ℕ → List (List ℕ)) (rest : List ℕ)
      → serving start (lines_from ending [] (told ++ rest)) ≡ after_text text (serving s (lines_from ending begun rest))
  pub cuts : Cuts [] told begun

pub served_start : (s : Session) → ServesSoFar s [] [] s []
served_start s = record { begun = []; front = refl; goes_on = λ ending rest. refl; cuts = cuts_nothing [] }

-- a line that is too long is a bad command, and its kept beginning is one too
too_long : (line : List ℕ) → 255 < length line → command_of line ≡ Bad
unfolding command_of
too_long line h = rw (lt-ltb 255 (length line) h) refl

-- where more than 257 bytes came, both are too long; else what is kept is all
pub command-kept : (begun : List ℕ) → command_of (take 257 begun) ≡ command_of begun
command-kept begun = elim (cases_lt 257 (length begun)) [
  | inl more ↦ too_long (take 257 begun) (omega (arith, length-take 257 begun)) ∙ sym (too_long begun (omega arith))
  | inr less ↦ ap command_of (take_all 257 begun less)
]

length-strip : (b : ℕ) (xs : List ℕ) → length xs ≤ length (strip_last b xs) + 1
length-strip b xs = by (ends_with_byte b xs)
  where
    by : (t : Bool) → length xs ≤ length (cond t (take (length xs - 1) xs) xs) + 1
    by true = omega (arith, length-take (length xs - 1) xs)
    by false = omega arith

pub command-kept_line : (begun : List ℕ) → command_of (strip_last 13 (take 257 begun)) ≡ command_of (strip_last 13 begun)
command-kept_line begun = elim (cases_lt 257 (length begun)) [
  | inl more ↦ too_long (strip_last 13 (take 257 begun)) (omega (arith, length-take 257 begun, length-strip 13 (take 257 begun)))
      ∙ sym (too_long (strip_last 13 begun) (omega (arith, length-strip 13 begun)))
  | inr less ↦ ap (λ l. command_of (strip_last 13 l)) (take_all 257 begun less)
]

-- one more byte of a line, and of its kept beginning
kept-more : (begun : List ℕ) (b : ℕ) → kept_with (take 257 begun) b ≡ take 257 (begun ++ b ∷ [])
kept-more begun b = elim (cases_lt 256 (length begun)) [
  | inl more ↦
      let full : ltb (length (take 257 begun)) 257 ≡ false = let le : 257 ≤ length (take 257 begun) = omega (arith, length-take 257 begun) in le-ltb _ _ le in
      rw full (sym (take-append-le 257 begun (b ∷ []) (omega arith)))
  | inr less ↦
      let all : take 257 begun ≡ begun = take_all 257 begun (omega arith) in
      let room : ltb (length begun) 257 ≡ true = lt-ltb _ _ (omega arith) in
      rw (all, room) (sym (take_all 257 (begun ++ b ∷ []) (omega (arith, length-append begun (b ∷ [])))))
]

-- what bytes give, where `kept` is the beginning of the line begun
pub record Feeds (s : Session) (begun bytes : List ℕ) (r : Fed) : Type 0 where
  pub more : List ℕ
  pub front : r.kept ≡ take 257 more
  pub goes_on : r.quit ≡ false → (ending : List ℕ → List (List ℕ)) (rest : List ℕ)
      → serving s (lines_from ending begun (bytes ++ rest)) ≡ after_text r.written (serving r.session (lines_from ending more rest))
  pub ends : r.quit ≡ true → (ending : List ℕ → List (List ℕ)) (rest : List ℕ)
      → serving s (lines_from ending begun (bytes ++ rest)) ≡ record { written = r.written; session = r.session }
  pub cuts : r.quit ≡ false → Cuts begun bytes more

-- a line that does not end the engine is not `quit`
not_quit : (command : Command) (s : Session) → (answer_to command s).quit ≡ false → command ≢ Quit
unfolding answer_to
not_quit command s on is = true≢false (sym (ap (λ (c : Command). (answer_to c s).quit) is) ∙ on)

-- one line or one byte of it
served_line : (s : Session) (begun bs : List ℕ) (ending : List ℕ → List (List ℕ))
    → serving s (lines_from ending begun (10 ∷ bs)) ≡ serving_after (answer_to (command_of (strip_last 13 begun)) s) (λ t. serving t (lines_from ending [] bs))
unfolding serving lines_from
served_line s begun bs ending = refl

served_byte : (s : Session) (begun bs : List ℕ) (b : ℕ) (ending : List ℕ → List (List ℕ)) → eqb b 10 ≡ false
    → serving s (lines_from ending begun (b ∷ bs)) ≡ serving s (lines_from ending (begun ++ b ∷ []) bs)
unfolding serving lines_from
served_byte s begun bs b ending e = rw e refl

feed_line : (s : Session) (kept bs : List ℕ) → feed s kept (10 ∷ bs) ≡ fed_on (answer_to (command_of (strip_last 13 kept)) s) (λ t. feed t [] bs)
unfolding feed
feed_line s kept bs = refl

feed_byte : (s : Session) (kept bs : List ℕ) (b : ℕ) → eqb b 10 ≡ false → feed s kept (b ∷ bs) ≡ feed s (kept_with kept b) bs
unfolding feed
feed_byte s kept bs b e = rw e refl

feed_none : (s : Session) (kept : List ℕ) → feed s kept [] ≡ fed [] s kept false
unfolding feed
feed_none s kept = refl

-- a line served, and then what comes after it
after_line : (a : Answer) (s : Session) (begun bs : List ℕ) → (a.quit ≡ false → command_of (strip_last 13 begun) ≢ Quit)
    → ((ending : List ℕ → List (List ℕ)) (rest : List ℕ) → serving s (lines_from ending begun (10 ∷ bs ++ rest))
    ≡ serving_after a (λ t. serving t (lines_from ending [] (bs ++ rest))))
    → ((t : Session) → Feeds t [] bs (feed t [] bs)) → Feeds s begun (10 ∷ bs) (fed_on a (λ t. feed t [] bs))
after_line a s begun bs stays h rest = by a.quit refl
  where
    by : (q : Bool) → a.quit ≡ q → Feeds s begun (10 ∷ bs) (cond a.quit (fed a.written a.session [] true) (fed_after a.written (feed a.session [] bs)))
    by true e = rw e (record {
      more = [];
      front = refl;
      goes_on = λ no. absurd (true≢false no);
      ends =
          λ _ ending more. h ending more ∙ rw e refl;
      cuts = λ no. absurd (true≢false no);
    })
    by false e = let r = rest a.session in rw e (record {
      more = r.more;
      front = r.front;
      goes_on = λ no ending more. h ending more ∙ rw e (ap (after_text a.written) (r.goes_on no ending more)
          ∙ ap (λ w. record { written = w; session = (serving (feed a.session [] bs).session (lines_from ending r.more more)).session })
          (sym (append_assoc a.written (feed a.session [] bs).written (serving (feed a.session [] bs).session (lines_from ending r.more more)).written)));
      ends = λ yes ending more. h ending more ∙ rw e (ap (after_text a.written) (r.ends yes ending more));
      cuts = λ no. cuts_line begun bs r.more (stays e) (r.cuts no);
    })

pub feeds : (s : Session) (begun bytes : List ℕ) → Feeds s begun bytes (feed s (take 257 begun) bytes)
feeds s begun [] = rw feed_none (record {
  more = begun;
  front = refl;
  goes_on = λ _ ending rest. refl;
  ends =
      λ no. absurd (true≢false (sym no));
  cuts = λ _. cuts_nothing begun;
})
feeds s begun (b ∷ bs) = elim (eqb_tells b 10) [
  | inl h ↦ subst (λ x. Feeds s begun (x ∷ bs) (feed s (take 257 begun) (x ∷ bs))) (sym h.1)
      (rw (feed_line, command-kept_line begun) (after_line (answer_to (command_of (strip_last 13 begun)) s) s begun bs
      (not_quit (command_of (strip_last 13 begun)) s) (λ ending rest. served_line s begun (bs ++ rest) ending) (λ t. feeds t [] bs)))
  | inr h ↦ let r = feeds s (begun ++ b ∷ []) bs in
      rw (feed_byte s (take 257 begun) bs b h.0, kept-more begun b) (record {
        more = r.more;
        front = r.front;
        goes_on = λ no ending rest. served_byte s begun (bs ++ rest) b ending h.0 ∙ r.goes_on no ending rest;
        ends = λ yes ending rest. served_byte s begun (bs ++ rest) b ending h.0 ∙ r.ends yes ending rest;
        cuts = λ no. cuts_byte begun bs r.more b h.0 (r.cuts no);
      })
]

-- more bytes after some that were fed
pub fed_then : Fed → List ℕ → Fed
fed_then r bs = if r.quit then r else fed_after r.written (feed r.session r.kept bs)

fed_then_line : (a : Answer) (bs : List ℕ) → fed_on a (λ t. feed t [] bs) ≡ fed_then (fed_on a (λ t. feed t [] [])) bs
unfolding fed_then
fed_then_line a bs = by a.quit refl
  where
    by : (q : Bool) → a.quit ≡ q → fed_on a (λ t. feed t [] bs) ≡ fed_then (fed_on a (λ t. feed t [] [])) bs
    by true e = rw e refl
    by false e = rw (e, feed_none a.session [], append-nil a.written) refl

feed_one : (s : Session) (kept bs : List ℕ) (b : ℕ) → feed s kept (b ∷ bs) ≡ fed_then (feed s kept (b ∷ [])) bs
unfolding fed_then
feed_one s kept bs b = elim (eqb_tells b 10) [
  | inl h ↦ subst (λ x. feed s kept (x ∷ bs) ≡ fed_then (feed s kept (x ∷ [])) bs) (sym h.1)
      (rw (feed_line s kept bs, feed_line s kept []) (fed_then_line (answer_to (command_of (strip_last 13 kept)) s) bs))
  | inr h ↦ rw (feed_byte s kept bs b h.0, feed_byte s kept [] b h.0, feed_none s (kept_with kept b)) refl
]

-- the byte at i and then the rest
pub feed_at : (s : Session) (kept bytes : List ℕ) (i : ℕ) → i < length bytes
    → feed s kept (drop i bytes) ≡ fed_then (feed s kept (get_or bytes i 0 ∷ [])) (drop (i + 1) bytes)
feed_at s kept bytes i h = rw (drop-cons bytes i 0, ← add-one) (feed_one s kept (drop (i + 1) bytes) (get_or bytes i 0))

pub then_on : (text w : List ℕ) (s : Session) (kept bs : List ℕ) → fed_after text (fed_then (fed w s kept false) bs) ≡ fed_after (text ++ w) (feed s kept bs)
unfolding fed_then
then_on text w s kept bs =
    let r = feed s kept bs in ap (λ x. fed x r.session r.kept r.quit) (sym (append_assoc text w r.written))

pub then_quit : (text w : List ℕ) (s : Session) (kept bs : List ℕ) → fed_after text (fed_then (fed w s kept true) bs) ≡ fed (text ++ w) s kept true
unfolding fed_then
then_quit text w s kept bs = refl

pub then_written : (r : Fed) (bs : List ℕ) → (more : List ℕ) × ((fed_then r bs).written ≡ r.written ++ more)
unfolding fed_then
then_written r bs = by r.quit refl
  where
    by : (q : Bool) → r.quit ≡ q → (more : List ℕ) × ((cond r.quit r (fed_after r.written (feed r.session r.kept bs))).written ≡ r.written ++ more)
    by true e = ([], rw e (sym (append-nil r.written)))
    by false e = ((feed r.session r.kept bs).written, rw e refl)

pub feed_end : (s : Session) (kept bytes text : List ℕ) (i : ℕ) → length bytes ≤ i → fed_after text (feed s kept (drop i bytes)) ≡ fed text s kept false
feed_end s kept bytes text i h = rw (drop_all i bytes h, feed_none s kept, append-nil text) refl
