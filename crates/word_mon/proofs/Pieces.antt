-- Bytes one after another are served as the lines that they make.
use Rattle.std.proofs.Common.{◌≡◌, ◌≤◌, ◌<◌, ◌∙◌, ℕ, ◌+◌, Bool, true, false, cond, eqb, List, [], ◌∷◌, ◌++◌, refl, sym, ap, subst, length, take, arith, append_assoc, append-nil, length-append, length-take, Option, Result, Ok, Err, IfOk, IfErr, inl, inr, get_or, drop, drop-cons, take-append-drop, take-suc, add-one}
use Rattle.std.proofs.lemmas.Bool.{ne_eqb}
use Rattle.std.proofs.lemmas.List.{take_all, take-append-le}
use Rattle.std.specs.Io.BufRead.{strip_last}
use Rattle.std.specs.Io.KnownBytes.{Appends}
use Rattle.model.specs.TextLines.{ended_lines_of, lines_from, no_line}
use Rattle.model.specs.Writers.{AppendsFront}
use Rattle.model.proofs.Written.{front_none}
use Rattle.word_mon.specs.Attended.{EndsLines, ServesLine, ServesLines, ServesSome, input_lines, line_at_end}
use Rattle.word_mon.specs.Pieces.{BreaksBytes, BreaksLine, GoesOn, IsOver, Piece, ServesPiece}
use Rattle.word_mon.specs.Screens.{Rests, answer_text, without_screen}
use Rattle.word_mon.specs.declared.terminal.Terminal.{Terminal}
use Rattle.word_mon.proofs.LinesServed.{line_alone, line_kept, line_on, line_over, lines_more, lines_then, no_lines, none_served}
use Rattle.arguments.specs.declared.refusal.Refusal.{Refusal}

pub begins : (prompt : List ℕ) (first : Terminal) → GoesOn prompt [] [] first first []
begins prompt first = record {
  lines = [];
  begun = [];
  cut = λ ending rest. refl;
  front = refl;
  served = no_lines prompt first;
}

-- ---- the lines of one more byte

from_line : (ending : List ℕ → List (List ℕ)) (begun rest : List ℕ)
    → lines_from ending begun (10 ∷ rest) ≡ strip_last 13 begun ∷ lines_from ending [] rest
unfolding lines_from
from_line ending begun rest = refl

from_byte : (ending : List ℕ → List (List ℕ)) (begun rest : List ℕ) (b : ℕ) → eqb b 10 ≡ false
    → lines_from ending begun (b ∷ rest) ≡ lines_from ending (begun ++ b ∷ []) rest
unfolding lines_from
from_byte ending begun rest b e = rw e refl

from_none : (ending : List ℕ → List (List ℕ)) (begun : List ℕ)
    → lines_from ending begun [] ≡ ending begun
unfolding lines_from
from_none ending begun = refl

-- one line, whether it ends the session or not
one_line : (prompt line : List ℕ) (is_over : Bool) (a b : Terminal) (said : List ℕ)
    → ServesLine line is_over a b said
    → ServesLines prompt (line ∷ []) is_over a b (answer_text is_over prompt b said)
one_line prompt line true a b said p = line_over prompt line [] a b said p
one_line prompt line false a b said p = line_on prompt line a b said p

-- more bytes end more lines
from_more : (begun bytes rest : List ℕ) → (later : List (List ℕ))
    × (lines_from no_line begun (bytes ++ rest) ≡ lines_from no_line begun bytes ++ later)
unfolding lines_from
from_more begun [] rest = (lines_from no_line begun rest, refl)
from_more begun (b ∷ bytes) rest =
    by (eqb b 10) (from_more [] bytes rest) (from_more (begun ++ b ∷ []) bytes rest)
  where
    line : List ℕ
    line = strip_last 13 begun

    more : List ℕ
    more = begun ++ b ∷ []

    by : (t : Bool)
        → (later : List (List ℕ)) × (lines_from no_line [] (bytes ++ rest) ≡ lines_from no_line [] bytes ++ later)
        → (later : List (List ℕ)) × (lines_from no_line more (bytes ++ rest) ≡ lines_from no_line more bytes ++ later)
        → (later : List (List ℕ)) × (cond t (line ∷ lines_from no_line [] (bytes ++ rest)) (lines_from no_line more (bytes ++ rest))
        ≡ cond t (line ∷ lines_from no_line [] bytes) (lines_from no_line more bytes) ++ later)
    by true p q = (p.0, ap (λ l. line ∷ l) p.1)
    by false p q = q

pub some_more : (prompt told rest : List ℕ) (first last : Terminal) (written : List ℕ)
    → ServesSome prompt told first last written → ServesSome prompt (told ++ rest) first last written
some_more prompt told rest first last written s =
    let more = from_more [] told rest in
    (s.0, s.1 ++ more.0, more.1 ∙ ap (λ l. l ++ more.0) s.2 ∙ append_assoc s.0 s.1 more.0, s.3, s.4)

-- all of a text is a beginning of it
pub front_all : (a b : Option (List ℕ)) (text : List ℕ) → Appends a b text → AppendsFront a b text
front_all a b text p = (text, [], sym (append-nil text), p)

-- no bytes, and no line of them
pub some_none : (prompt : List ℕ) (first : Terminal) → ServesSome prompt [] first first []
some_none prompt first = ([], [], from_none no_line [], false, no_lines prompt first)

module _ (prompt told kept : List ℕ) (first now : Terminal) (before : List ℕ)
    (g : GoesOn prompt told kept first now before) where
  more_cut : (bytes : List ℕ) (ending : List ℕ → List (List ℕ)) (rest : List ℕ)
      → lines_from ending [] ((told ++ bytes) ++ rest)
      ≡ g.lines ++ lines_from ending g.begun (bytes ++ rest)
  more_cut bytes ending rest =
      ap (lines_from ending []) (append_assoc told bytes rest) ∙ g.cut ending (bytes ++ rest)

  -- only the text changes
  pub shown_on : (new : Terminal) → Rests now new → GoesOn prompt told kept first new before
  shown_on new p = record {
    lines = g.lines;
    begun = g.begun;
    cut = g.cut;
    front = g.front;
    served = lines_then prompt g.lines false first now new before g.served p;
  }

  -- a byte of a line
  pub byte_on : (b : ℕ) (more : List ℕ) → (b ≡ 10 → ⊥) → more ≡ take 257 (g.begun ++ b ∷ [])
      → GoesOn prompt (told ++ b ∷ []) more first now (before ++ [])
  byte_on b more ne h =
      let e = ne_eqb b 10 ne in record {
        lines = g.lines;
        begun = g.begun ++ b ∷ [];
        cut = λ ending rest. more_cut (b ∷ []) ending rest ∙ ap (λ l. g.lines ++ l) (from_byte ending g.begun rest b e);
        front = h;
        served = subst (λ w. ServesLines prompt g.lines false first now w) (sym (append-nil before)) g.served;
      }

  -- a line that has ended
  pub line_goes : (new : Terminal) (said : List ℕ) → ServesLine (strip_last 13 kept) false now new said
      → GoesOn prompt (told ++ 10 ∷ []) [] first new
      (before ++ answer_text false prompt new said)
  line_goes new said p = record {
    lines = g.lines ++ strip_last 13 g.begun ∷ [];
    begun = [];
    cut = λ ending rest. more_cut (10 ∷ []) ending rest ∙ ap (λ l. g.lines ++ l) (from_line ending g.begun rest)
        ∙ sym (append_assoc g.lines (strip_last 13 g.begun ∷ []) (lines_from ending [] rest));
    front = refl;
    served = lines_more prompt g.lines (strip_last 13 g.begun ∷ []) false first now new before (answer_text false prompt new said) g.served
        (line_on prompt (strip_last 13 g.begun) now new said
        (line_kept g.begun false now new said (subst (λ k. ServesLine (strip_last 13 k) false now new said) g.front p)));
  }

  pub line_ends : (new : Terminal) (said : List ℕ) → ServesLine (strip_last 13 kept) true now new said
      → IsOver prompt (told ++ 10 ∷ []) first new (before ++ said)
  line_ends new said p ending rest = subst (λ l. ServesLines prompt l true first new (before ++ said))
      (sym (more_cut (10 ∷ []) ending rest ∙ ap (λ l. g.lines ++ l) (from_line ending g.begun rest)))
      (lines_more prompt g.lines (strip_last 13 g.begun ∷ lines_from ending [] rest) true first now new before said g.served
      (line_over prompt (strip_last 13 g.begun) (lines_from ending [] rest) now new said
      (line_kept g.begun true now new said (subst (λ k. ServesLine (strip_last 13 k) true now new said) g.front p))))

  ended : ended_lines_of told ≡ g.lines
  ended = ap ended_lines_of (sym (append-nil told)) ∙ g.cut no_line []
      ∙ ap (λ l. g.lines ++ l) (from_none no_line g.begun) ∙ append-nil g.lines

  -- the complete lines
  pub so_far : ServesLines prompt (ended_lines_of told) false first now before
  so_far = subst (λ l. ServesLines prompt l false first now before) (sym ended) g.served

  -- and so some of them
  pub all_some : ServesSome prompt told first now before
  all_some = (
    ended_lines_of told,
    [],
    sym (append-nil (ended_lines_of told)),
    false,
    so_far,
  )

  whole : input_lines told ≡ ended_lines_of told ++ line_at_end g.begun
  whole = ap input_lines (sym (append-nil told)) ∙ g.cut line_at_end []
      ∙ ap (λ l. g.lines ++ l) (from_none line_at_end g.begun)
      ∙ ap (λ l. l ++ line_at_end g.begun) (sym ended)

  -- some bytes of which no line is served
  pub some_kept : (bytes : List ℕ) → ServesSome prompt (told ++ bytes) first now (before ++ [])
  some_kept bytes = (
    g.lines,
    lines_from no_line g.begun bytes,
    g.cut no_line bytes,
    false,
    subst (λ w. ServesLines prompt g.lines false first now w) (sym (append-nil before)) g.served,
  )

  -- or a line that has ended
  pub some_line : (is_over : Bool) (new : Terminal) (said : List ℕ)
      → ServesLine (strip_last 13 kept) is_over now new said
      → ServesSome prompt (told ++ 10 ∷ []) first new (before ++ answer_text is_over prompt new said)
  some_line is_over new said p = (
    g.lines ++ strip_last 13 g.begun ∷ [],
    [],
    g.cut no_line (10 ∷ []) ∙ ap (λ l. g.lines ++ l) (from_line no_line g.begun [] ∙ ap (λ l. strip_last 13 g.begun ∷ l) (from_none no_line []))
        ∙ sym (append-nil (g.lines ++ strip_last 13 g.begun ∷ [])),
    is_over,
    lines_more prompt g.lines (strip_last 13 g.begun ∷ []) is_over first now new before (answer_text is_over prompt new said) g.served
        (one_line prompt (strip_last 13 g.begun) is_over now new said
        (line_kept g.begun is_over now new said (subst (λ k. ServesLine (strip_last 13 k) is_over now new said) g.front p))),
  )

  -- at the end no line is begun
  pub ends_none : (line_end : List ℕ) (last : Terminal) → kept ≡ [] → Rests (without_screen now) last
      → EndsLines prompt line_end told false first last (before ++ (line_end ++ []))
  ends_none line_end last e rests = (
    [],
    whole ∙ ap (λ b. ended_lines_of told ++ line_at_end b) (none g.begun (sym g.front ∙ e)),
    now,
    before,
    [],
    so_far,
    none_served (without_screen now) last rests,
    refl,
  )
    where
      none : (begun : List ℕ) → take 257 begun ≡ [] → begun ≡ []
      none [] h = refl
      none (b ∷ bs) h = absurd (omega (arith, ap length h, length-take 257 (b ∷ bs)))

  -- or the line begun is the last
  pub ends_line : (line_end : List ℕ) (is_over : Bool) (new : Terminal) (said : List ℕ) → 0 < length kept
      → ServesLine (strip_last 13 kept) is_over (without_screen now) new said
      → EndsLines prompt line_end told is_over first new (before ++ (line_end ++ said))
  ends_line line_end is_over new said h p = (
    strip_last 13 g.begun ∷ [],
    whole ∙ ap (λ l. ended_lines_of told ++ l) (some g.begun g.front),
    now,
    before,
    said,
    so_far,
    line_alone (strip_last 13 g.begun) is_over now new said (line_kept g.begun is_over (without_screen now) new said
        (subst (λ k. ServesLine (strip_last 13 k) is_over (without_screen now) new said) g.front p)),
    refl,
  )
    where
      some : (begun : List ℕ) → kept ≡ take 257 begun → line_at_end begun ≡ strip_last 13 begun ∷ []
      some [] f = absurd (omega (arith, ap length f))
      some (b ∷ bs) f = refl

-- ---- one more byte, and the beginning that is kept

-- one byte as a piece
abbrev byte_served : List ℕ → ℕ → List ℕ → List ℕ → Terminal → Terminal → Bool → List ℕ → Piece
byte_served prompt byte kept more old new is_over written = record {
  bytes = byte ∷ [];
  prompt = prompt;
  old = old;
  kept = kept;
  new = new;
  kept_then = more;
  is_over = is_over;
  written = written;
}

-- an LF, by whether the line ends the session
pub line_fed : (prompt : List ℕ) (is_over : Bool) (byte : ℕ) (kept more : List ℕ) (old new : Terminal)
    (said : List ℕ) → byte ≡ 10 → ServesLine (strip_last 13 kept) is_over old new said → more ≡ []
    → ServesPiece (byte_served prompt byte kept more old new is_over (answer_text is_over prompt new said))
line_fed prompt true byte kept more old new said e p none = λ told first before g.
    subst (λ b. IsOver prompt (told ++ b ∷ []) first new (before ++ said)) (sym e) (line_ends prompt told kept first old before g new said p)
line_fed prompt false byte kept more old new said e p none = λ told first before g.
    let written = answer_text false prompt new said in
    subst (λ b. GoesOn prompt (told ++ b ∷ []) more first new (before ++ written)) (sym e)
    (subst (λ k. GoesOn prompt (told ++ 10 ∷ []) k first new (before ++ written)) (sym none) (line_goes prompt told kept first old before g new said p))

pub fed_of : (prompt : List ℕ) (r : Result Bool Refusal) (byte : ℕ) (kept more : List ℕ)
    (old new : Terminal) (Wrote : List ℕ → Type 0) → byte ≡ 10
    → IfOk r (λ is_over. (said : List ℕ) × ServesLine (strip_last 13 kept) is_over old new said
    × Wrote (answer_text is_over prompt new (old.mon.text.items ++ said)))
    → IfOk r (λ _. more ≡ [])
    → IfOk r (λ is_over. (x : List ℕ) × ServesPiece (byte_served prompt byte kept more old new is_over x)
    × (old.mon.text.items ≡ [] → Wrote x))
fed_of prompt (Ok is_over) byte kept more old new Wrote e p none = (
  answer_text is_over prompt new p.0,
  line_fed prompt is_over byte kept more old new p.0 e p.1 none,
  λ empty. subst (λ t. Wrote (answer_text is_over prompt new (t ++ p.0))) empty p.2,
)
fed_of prompt (Err fault) byte kept more old new Wrote e p none = tt

-- an LF whose line is not answered whole
line_broken : (prompt : List ℕ) (byte : ℕ) (kept : List ℕ) (old : Terminal) (held now : Option (List ℕ))
    → byte ≡ 10 → BreaksLine prompt (strip_last 13 kept) old held now
    → BreaksBytes prompt (byte ∷ []) kept old held now
line_broken prompt byte kept old held now e (inl same) = (
  [],
  λ told first before g. (old, some_kept prompt told kept first old before g (byte ∷ [])),
  λ _. subst (λ (x : Option (List ℕ)). AppendsFront held x []) (sym same) (front_none held []),
)
line_broken prompt byte kept old held now e (inr p) = (
  answer_text p.0 prompt p.1 p.2,
  λ told first before g. (
    p.1,
    subst (λ b. ServesSome prompt (told ++ b ∷ []) first p.1 (before ++ answer_text p.0 prompt p.1 p.2)) (sym e)
        (some_line prompt told kept first old before g p.0 p.1 p.2 p.3),
  ),
  λ empty. subst (λ t. AppendsFront held now (answer_text p.0 prompt p.1 (t ++ p.2))) empty p.4,
)

pub broken_of : (prompt : List ℕ) (r : Result Bool Refusal) (byte : ℕ) (kept : List ℕ) (old : Terminal)
    (held now : Option (List ℕ)) → byte ≡ 10
    → IfErr r (λ _. BreaksLine prompt (strip_last 13 kept) old held now)
    → IfErr r (λ _. BreaksBytes prompt (byte ∷ []) kept old held now)
broken_of prompt (Ok is_over) byte kept old held now e p = tt
broken_of prompt (Err fault) byte kept old held now e p = line_broken prompt byte kept old held now e p

pub kept_room : (begun : List ℕ) (b : ℕ) → length (take 257 begun) < 257
    → take 257 begun ++ b ∷ [] ≡ take 257 (begun ++ b ∷ [])
kept_room begun b h =
    let all : take 257 begun ≡ begun = take_all 257 begun (omega (arith, length-take 257 begun)) in
    rw all (sym (take_all 257 (begun ++ b ∷ []) (omega (arith, length-take 257 begun, length-append begun (b ∷ [])))))

pub kept_full : (begun : List ℕ) (b : ℕ) → 257 ≤ length (take 257 begun)
    → take 257 begun ≡ take 257 (begun ++ b ∷ [])
kept_full begun b h = sym (take-append-le 257 begun (b ∷ []) (omega (arith, length-take 257 begun)))

pub one_taken : (told bytes : List ℕ) (i : ℕ) → i < length bytes
    → told ++ (take i bytes ++ get_or bytes i 0 ∷ []) ≡ told ++ take (i + 1) bytes
one_taken told bytes i h = rw add-one (ap (λ t. told ++ t) (sym (take-suc bytes i 0 h)))

-- a byte in the middle of some bytes
pub around : (told bytes rest : List ℕ) (i : ℕ) → i < length bytes
    → ((told ++ take i bytes) ++ get_or bytes i 0 ∷ []) ++ (drop (i + 1) bytes ++ rest)
    ≡ (told ++ bytes) ++ rest
around told bytes rest i h =
    let all : take i bytes ++ (get_or bytes i 0 ∷ drop (i + 1) bytes) ≡ bytes = rw (add-one i, ← drop-cons bytes i 0 h) (take-append-drop i bytes) in
    append_assoc (told ++ take i bytes) (get_or bytes i 0 ∷ []) (drop (i + 1) bytes ++ rest)
    ∙ append_assoc told (take i bytes) (get_or bytes i 0 ∷ drop (i + 1) bytes ++ rest)
    ∙ ap (λ l. told ++ l) (sym (append_assoc (take i bytes) (get_or bytes i 0 ∷ drop (i + 1) bytes) rest) ∙ ap (λ l. l ++ rest) all)
    ∙ sym (append_assoc told bytes rest)

-- whatever the result, what holds anyway
pub if_err_anyway : {X E : Type 0} (r : Result X E) (P : Type 0) → P → IfErr r (λ _. P)
if_err_anyway (Ok x) P p = tt
if_err_anyway (Err e) P p = p

pub if_ok_anyway : {X E : Type 0} (r : Result X E) (P : Type 0) → P → IfOk r (λ _. P)
if_ok_anyway (Ok x) P p = p
if_ok_anyway (Err e) P p = tt

pub length_zero : (xs : List ℕ) → length xs ≡ 0 → xs ≡ []
length_zero [] h = refl
length_zero (x ∷ xs) h = absurd (omega arith)

pub length_some : (xs : List ℕ) → (length xs ≡ 0 → ⊥) → 0 < length xs
length_some [] h = absurd (h refl)
length_some (x ∷ xs) h = omega arith
