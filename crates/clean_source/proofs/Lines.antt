-- The lines of a text are those of the source, cleaned.
use Rattle.std.proofs.Common.{◌≡◌, ℕ, ◌<◌, ◌≤◌, Bool, true, false, List, [], ◌∷◌, ◌++◌, refl, sym, ap, ◌∙◌, subst, append_assoc, append-nil, length, arith, inl, inr, map}
use Rattle.std.specs.Prelude.{nat_lt, ◌==◌, ◌&&◌}
use Rattle.std.specs.Io.BufRead.{strip_last}
use Rattle.std.specs.List.{list_all}
use Rattle.std.proofs.lemmas.Bool.{cases_Bool}
use Rattle.std.proofs.lemmas.Bool.Decides.{eqb_tells}
use borrow.Author.Tests.{ltb-true}
use Rattle.model.specs.Source.{most_bytes}
use Rattle.model.specs.TextLines.{last_line, lines_from, lines_of}
use Rattle.model.specs.Token.{begins}
use Rattle.clean_source.specs.Cleaned.{cleaned, cleaned_from, cleaned_line, ends_line, is_line_feed, is_mark, unmarked}
use Rattle.clean_source.specs.Plain.{LineKeepsPlaces, LinesAreCleaned, has_line_feeds}
use Rattle.clean_source.proofs.Kept.{keeps, kept_push, line_kept, line_front, line_some, strip_kept, strip_push}
use Rattle.clean_source.proofs.Twice.{empty_line}

-- ---- lines of a text that begins with one

no_feed : (b : ℕ) → ends_line b ≡ false → (b == 10) ≡ false
no_feed b f = elim (eqb_tells b 10) [
  | inl e ↦ let k : true ≡ false = subst (λ x. ends_line x ≡ false) e.1 f in absurd cc
  | inr n ↦ n.0
]

lines_cut : (begun line rest : List ℕ) → list_all keeps line ≡ true
    → lines_from last_line begun (line ++ 10 ∷ rest) ≡ strip_last 13 (begun ++ line) ∷ lines_from last_line [] rest
unfolding lines_from
lines_cut begun [] rest k = ap (λ (x : List ℕ). strip_last 13 x ∷ lines_from last_line [] rest) (sym (append-nil begun))
lines_cut begun (b ∷ line) rest k = elim (cases_Bool (ends_line b)) [
  | inl t ↦ let f : false ≡ true = rw t at k in absurd cc
  | inr f ↦
      let h = rw f at k in
      rw (no_feed b f) (lines_cut (begun ++ b ∷ []) line rest h
      ∙ ap (λ (x : List ℕ). strip_last 13 x ∷ lines_from last_line [] rest) (append_assoc begun (b ∷ []) line))
]

lines_cut_return : (begun line rest : List ℕ) → list_all keeps line ≡ true
    → lines_from last_line begun (line ++ 13 ∷ 10 ∷ rest) ≡ strip_last 13 ((begun ++ line) ++ 13 ∷ []) ∷ lines_from last_line [] rest
unfolding lines_from
lines_cut_return begun [] rest k = ap (λ (x : List ℕ). strip_last 13 (x ++ 13 ∷ []) ∷ lines_from last_line [] rest) (sym (append-nil begun))
lines_cut_return begun (b ∷ line) rest k = elim (cases_Bool (ends_line b)) [
  | inl t ↦ let f : false ≡ true = rw t at k in absurd cc
  | inr f ↦
      let h = rw f at k in
      rw (no_feed b f) (lines_cut_return (begun ++ b ∷ []) line rest h
      ∙ ap (λ (x : List ℕ). strip_last 13 (x ++ 13 ∷ []) ∷ lines_from last_line [] rest) (append_assoc begun (b ∷ []) line))
]

lines_last : (begun line : List ℕ) → list_all keeps line ≡ true → lines_from last_line begun line ≡ last_line (begun ++ line)
unfolding lines_from
lines_last begun [] k = ap last_line (sym (append-nil begun))
lines_last begun (b ∷ line) k = elim (cases_Bool (ends_line b)) [
  | inl t ↦ let f : false ≡ true = rw t at k in absurd cc
  | inr f ↦
      let h = rw f at k in
      rw (no_feed b f) (lines_last (begun ++ b ∷ []) line h ∙ ap last_line (append_assoc begun (b ∷ []) line))
]

-- ---- the last line

last_some : (made : List ℕ) → 0 < length made → last_line made ≡ made ∷ []
last_some [] h = absurd (omega (arith, h))
last_some (b ∷ bs) h = refl

last_cleaned : (line : List ℕ) → last_line (cleaned_line line) ≡ map cleaned_line (last_line line)
last_cleaned [] = ap last_line empty_line
last_cleaned (b ∷ bs) = last_some (cleaned_line (b ∷ bs)) (line_some b bs)

-- ---- all lines

and_left : (a b : Bool) → (a && b) ≡ true → a ≡ true
and_left true b h = refl
and_left false b h = h

and_right : (a b : Bool) → (a && b) ≡ true → b ≡ true
and_right true b h = h
and_right false b h = absurd cc

-- the bytes from an LF on
at_feed : (begun bytes : List ℕ) → list_all keeps begun ≡ true
    → lines_from last_line [] (cleaned_from [] bytes) ≡ map cleaned_line (lines_from last_line [] bytes)
    → lines_from last_line [] (cleaned_from begun (10 ∷ bytes)) ≡ map cleaned_line (lines_from last_line begun (10 ∷ bytes))
unfolding cleaned_from lines_from
at_feed begun bytes k later =
    lines_cut [] (cleaned_line begun) (cleaned_from [] bytes) (line_kept begun k)
    ∙ (ap (λ (x : List ℕ). x ∷ lines_from last_line [] (cleaned_from [] bytes)) (strip_kept (cleaned_line begun) (line_kept begun k))
    ∙ (ap (λ (x : List (List ℕ)). cleaned_line begun ∷ x) later
    ∙ ap (λ (x : List ℕ). cleaned_line x ∷ map cleaned_line (lines_from last_line [] bytes)) (sym (strip_kept begun k))))

-- the bytes from CR LF on
at_return : (begun bytes : List ℕ) → list_all keeps begun ≡ true
    → lines_from last_line [] (cleaned_from [] bytes) ≡ map cleaned_line (lines_from last_line [] bytes)
    → lines_from last_line [] (cleaned_from begun (13 ∷ 10 ∷ bytes)) ≡ map cleaned_line (lines_from last_line begun (13 ∷ 10 ∷ bytes))
unfolding cleaned_from lines_from
at_return begun bytes k later =
    ap (λ (x : List ℕ). lines_from last_line [] (cleaned_line begun ++ 13 ∷ (x ++ 10 ∷ cleaned_from [] bytes))) empty_line
    ∙ (lines_cut_return [] (cleaned_line begun) (cleaned_from [] bytes) (line_kept begun k)
    ∙ (ap (λ (x : List ℕ). x ∷ lines_from last_line [] (cleaned_from [] bytes)) (strip_push (cleaned_line begun))
    ∙ (ap (λ (x : List (List ℕ)). cleaned_line begun ∷ x) later
    ∙ ap (λ (x : List ℕ). cleaned_line x ∷ map cleaned_line (lines_from last_line [] bytes)) (sym (strip_push begun)))))

has_rest : (b : ℕ) (bytes : List ℕ) → has_line_feeds (b ∷ bytes) ≡ true → has_line_feeds bytes ≡ true
unfolding has_line_feeds
has_rest b bytes h = and_right _ (has_line_feeds bytes) h

has_first : (bytes : List ℕ) → has_line_feeds (13 ∷ bytes) ≡ true → begins is_line_feed bytes ≡ true
unfolding has_line_feeds
has_first bytes h = and_left (begins is_line_feed bytes) (has_line_feeds bytes) h

other_end : (b : ℕ) → ends_line b ≡ true → (b == 10) ≡ false → b ≡ 13
other_end b t n = elim (eqb_tells b 13) [
  | inl e ↦ e.1
  | inr m ↦ let k : false ≡ true = rw (n, m.0) at t in absurd cc
]

-- a byte that is no end
more_of : (begun : List ℕ) (b : ℕ) (bytes : List ℕ) → ends_line b ≡ false
    → lines_from last_line [] (cleaned_from (begun ++ b ∷ []) bytes) ≡ map cleaned_line (lines_from last_line (begun ++ b ∷ []) bytes)
    → lines_from last_line [] (cleaned_from begun (b ∷ bytes)) ≡ map cleaned_line (lines_from last_line begun (b ∷ bytes))
unfolding cleaned_from lines_from
more_of begun b bytes f later = rw (f, no_feed b f) later

Led : List ℕ → List ℕ → Type 0
Led begun bytes = lines_from last_line [] (cleaned_from begun bytes) ≡ map cleaned_line (lines_from last_line begun bytes)

led_end : (begun : List ℕ) → list_all keeps begun ≡ true → Led begun []
unfolding Led cleaned_from lines_from
led_end begun k = lines_last [] (cleaned_line begun) (line_kept begun k) ∙ last_cleaned begun

led_feed : (begun : List ℕ) (b : ℕ) (bytes : List ℕ) → b ≡ 10 → list_all keeps begun ≡ true → Led [] bytes → Led begun (b ∷ bytes)
unfolding Led
led_feed begun b bytes e k later = subst (λ x. lines_from last_line [] (cleaned_from begun (x ∷ bytes))
    ≡ map cleaned_line (lines_from last_line begun (x ∷ bytes))) (sym e) (at_feed begun bytes k later)

led_return : (begun : List ℕ) (b c : ℕ) (bytes : List ℕ) → b ≡ 13 → c ≡ 10 → list_all keeps begun ≡ true → Led [] bytes → Led begun (b ∷ c ∷ bytes)
unfolding Led
led_return begun b c bytes e f k later =
    subst (λ x. lines_from last_line [] (cleaned_from begun (x ∷ c ∷ bytes)) ≡ map cleaned_line (lines_from last_line begun (x ∷ c ∷ bytes))) (sym e)
    (subst (λ x. lines_from last_line [] (cleaned_from begun (13 ∷ x ∷ bytes)) ≡ map cleaned_line (lines_from last_line begun (13 ∷ x ∷ bytes))) (sym f)
    (at_return begun bytes k later))

led_more : (begun : List ℕ) (b : ℕ) (bytes : List ℕ) → ends_line b ≡ false → Led (begun ++ b ∷ []) bytes → Led begun (b ∷ bytes)
unfolding Led
led_more begun b bytes f later = more_of begun b bytes f later

-- the byte behind a CR
is_feed : (c : ℕ) (bytes : List ℕ) → begins is_line_feed (c ∷ bytes) ≡ true → c ≡ 10
is_feed c bytes h = elim (eqb_tells c 10) [
  | inl e ↦ e.1
  | inr n ↦ let k : false ≡ true = rw n.0 at h in absurd cc
]

after_return : (b : ℕ) (bytes : List ℕ) → b ≡ 13 → has_line_feeds (b ∷ bytes) ≡ true → begins is_line_feed bytes ≡ true
after_return b bytes e h = has_first bytes (subst (λ x. has_line_feeds (x ∷ bytes) ≡ true) e h)

led_alone : (begun : List ℕ) (b : ℕ) → list_all keeps begun ≡ true → has_line_feeds (b ∷ []) ≡ true → Led begun (b ∷ [])
led_alone begun b k h = elim (cases_Bool (ends_line b)) [
  | inr f ↦ led_more begun b [] f (led_end (begun ++ b ∷ []) (kept_push begun b k f))
  | inl t ↦ elim (eqb_tells b 10) [
    | inl e ↦ led_feed begun b [] e.1 k (led_end [] refl)
    | inr n ↦ let m : false ≡ true = after_return b [] (other_end b t n.0) h in absurd cc
  ]
]

led : (begun bytes : List ℕ) → list_all keeps begun ≡ true → has_line_feeds bytes ≡ true → Led begun bytes
led begun [] k h = led_end begun k
led begun (b ∷ []) k h = led_alone begun b k h
led begun (b ∷ c ∷ bytes) k h =
    let rest : has_line_feeds (c ∷ bytes) ≡ true = has_rest b (c ∷ bytes) h in
    elim (cases_Bool (ends_line b)) [
      | inr f ↦ led_more begun b (c ∷ bytes) f (led (begun ++ b ∷ []) (c ∷ bytes) (kept_push begun b k f) rest)
      | inl t ↦ elim (eqb_tells b 10) [
        | inl e ↦ led_feed begun b (c ∷ bytes) e.1 k (led [] (c ∷ bytes) refl rest)
        | inr n ↦
            let return = other_end b t n.0 in
            led_return begun b c bytes return (is_feed c bytes (after_return b (c ∷ bytes) return h)) k (led [] bytes refl (has_rest c bytes rest))
      ]
    ]

-- ---- the source

unmarked_feeds : (source : List ℕ) → has_line_feeds source ≡ true → has_line_feeds (unmarked source) ≡ true
unfolding unmarked
unmarked_feeds [] h = h
unmarked_feeds (a ∷ []) h = h
unmarked_feeds (a ∷ b ∷ []) h = h
unmarked_feeds (a ∷ b ∷ c ∷ bytes) h = elim (cases_Bool (is_mark a b c)) [
  | inl t ↦ rw t (unmarked_feeds bytes (has_rest c bytes (has_rest b (c ∷ bytes) (has_rest a (b ∷ c ∷ bytes) h))))
  | inr f ↦ rw f h
]

small : (source : List ℕ) → length source ≤ most_bytes → cleaned source ≡ cleaned_from [] (unmarked source)
unfolding cleaned
small source within = elim (cases_Bool (nat_lt most_bytes (length source))) [
  | inl t ↦ absurd (omega (arith, within, ltb-true most_bytes (length source) t))
  | inr f ↦ rw f refl
]

pub lines_are_cleaned : LinesAreCleaned
unfolding Led
lines_are_cleaned source within h = ap lines_of (small source within) ∙ led [] (unmarked source) refl (unmarked_feeds source h)

pub line_keeps_places : LineKeepsPlaces
line_keeps_places line n h = line_front line n h
