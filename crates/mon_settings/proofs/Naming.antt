-- A byte after a byte of an instruction with names in it.
use Rattle.std.proofs.Common.{◌≡◌, ℕ, suc, ◌+◌, ◌<◌, ◌≤◌, true, false, cond, List, [], ◌∷◌, ◌++◌, length, drop, drop-cons, add-one, get_or, sym, ap, ◌∙◌}
use Rattle.std.proofs.Math.ListN.{drop_of_length-le}
use Rattle.model.specs.Token.{is_word_byte}
use Rattle.source_map.specs.Names.{Named}
use Rattle.mon_settings.specs.declared.names.Before.{Before}
use Rattle.mon_settings.specs.Names.{next_before, text_from, word_text}

-- what comes of a byte, if it is one of a word, and if not
abbrev of_word : List Named → List ℕ → Before → List ℕ → ℕ → List ℕ → List ℕ
of_word names text before word b rest = text_from names text before (word ++ b ∷ []) rest

abbrev of_none : List Named → List ℕ → Before → List ℕ → ℕ → List ℕ → List ℕ
of_none names text before word b rest = text_from names ((text ++ word_text names before word) ++ b ∷ []) (next_before before b) [] rest

step : (names : List Named) (text : List ℕ) (before : Before) (word line now : List ℕ) (i d : ℕ)
    → now ≡ text_from names text before word (drop i line) → i < length line
    → now ≡ cond (is_word_byte (get_or line i d)) (of_word names text before word (get_or line i d) (drop (suc i) line))
    (of_none names text before word (get_or line i d) (drop (suc i) line))
unfolding text_from
step names text before word line now i d so_far inside = so_far ∙ ap (text_from names text before word) (drop-cons line i d inside)

-- one byte of a word
pub more_of_word : (names : List Named) (text : List ℕ) (before : Before) (word new line now : List ℕ) (i d : ℕ)
    → now ≡ text_from names text before word (drop i line) → i < length line
    → is_word_byte (get_or line i d) ≡ true → new ≡ word ++ get_or line i d ∷ [] → now ≡ text_from names text before new (drop (i + 1) line)
more_of_word names text before word new line now i d so_far inside is e =
    rw (e, add-one) (step names text before word line now i d so_far inside
    ∙ ap (λ b. cond b (of_word names text before word (get_or line i d) (drop (suc i) line))
    (of_none names text before word (get_or line i d) (drop (suc i) line))) is)

-- a byte behind a word
pub word_ends : (names : List Named) (text : List ℕ) (before after : Before) (word new none line now : List ℕ) (i d : ℕ)
    → now ≡ text_from names text before word (drop i line) → i < length line
    → is_word_byte (get_or line i d) ≡ false → new ≡ (text ++ word_text names before word) ++ get_or line i d ∷ []
    → after ≡ next_before before (get_or line i d) → none ≡ []
    → now ≡ text_from names new after none (drop (i + 1) line)
word_ends names text before after word new none line now i d so_far inside is e turns empty =
    rw (e, turns, empty, add-one) (step names text before word line now i d so_far inside
    ∙ ap (λ b. cond b (of_word names text before word (get_or line i d) (drop (suc i) line))
    (of_none names text before word (get_or line i d) (drop (suc i) line))) is)

-- no byte is left
pub line_ends : (names : List Named) (text : List ℕ) (before : Before) (word new line now : List ℕ) (i : ℕ)
    → now ≡ text_from names text before word (drop i line) → length line ≤ i
    → new ≡ text ++ word_text names before word → new ≡ now
unfolding text_from
line_ends names text before word new line now i so_far past e =
    e ∙ sym (so_far ∙ ap (text_from names text before word) (drop_of_length-le line past))
