-- The way over the characters of a string, and over pieces with commas between them.
use Rattle.std.proofs.Common.{◌≡◌, ℕ, zero, suc, ◌+◌, Bool, true, false, List, [], ◌∷◌, ◌++◌, Option, Some, None, refl, ap, sym, ◌∙◌, append_assoc, append-nil, drop, arith, Ok, Err}
use Rattle.model.specs.Names.{Definitions}
use Rattle.t65_values.specs.StringText.{Character, character_of}
use Rattle.t65_values.specs.ValueText.{and_then, skip_blanks}
use Rattle.t65_values.specs.declared.expression.Atom.TheVariants.{Number, Random}
use Rattle.t65_values.specs.declared.expression.Value.{Value}
use Rattle.t65_values.specs.declared.fault.RowFault.{RowFault}
use Rattle.t65_values.specs.declared.value.Letters.{Letters}
use Rattle.t65_reader.specs.Sequences.{Sequence, characters_by, characters_of, is_last, just, piece_of, pieces_after, random_values, with_character}

-- ---- characters

pub no_character_left : (n : ℕ) (found : List Value) (text : List ℕ) → n ≡ 0 → characters_of n found text ≡ (found, text)
unfolding characters_of
no_character_left zero found text h = refl
no_character_left (suc n) found text h = absurd (omega (arith, h))

pub characters_end : (n : ℕ) (found : List Value) (text : List ℕ) → character_of text ≡ None → characters_of n found text ≡ (found, text)
unfolding characters_of
characters_end zero found text h = refl
characters_end (suc n) found text h = ap (λ (o : Option Character). characters_by o found text (λ more behind. characters_of n more behind)) h

characters_suc : (n m b : ℕ) (found : List Value) (text rest : List ℕ) → n ≡ m + 1 → character_of text ≡ Some (b, rest)
    → characters_of n found text ≡ characters_of m (found ++ just (Number b) ∷ []) rest
unfolding characters_of
characters_suc zero m b found text rest e h = absurd (omega (arith, e))
characters_suc (suc n) m b found text rest e h =
    let same : n ≡ m = omega (arith, e) in
    ap (λ (o : Option Character). characters_by o found text (λ more behind. characters_of n more behind)) h
    ∙ ap (λ (i : ℕ). characters_of i (found ++ just (Number b) ∷ []) rest) same

pub characters_more : (n m b : ℕ) (found more : List Value) (text rest behind : List ℕ) → n ≡ m + 1 → character_of text ≡ Some (b, rest)
    → with_character found b rest ≡ (more, behind) → characters_of n found text ≡ characters_of m more behind
characters_more n m b found more text rest behind e h k = characters_suc n m b found text rest e h
    ∙ ap (λ (read : List Value × List ℕ). characters_of m read.0 read.1) k

-- ---- pieces

pub no_piece_left : (n : ℕ) (names : Definitions) (letters : Letters) (start : ℕ) (found : List Value) (text : List ℕ) → n ≡ 0
    → pieces_after n names letters start found text ≡ Ok (found, text)
unfolding pieces_after
no_piece_left zero names letters start found text h = refl
no_piece_left (suc n) names letters start found text h = absurd (omega (arith, h))

pub last_piece : (n : ℕ) (names : Definitions) (letters : Letters) (start : ℕ) (found : List Value) (text : List ℕ) → is_last text ≡ true
    → pieces_after n names letters start found text ≡ Ok (found, text)
unfolding pieces_after
last_piece zero names letters start found text h = refl
last_piece (suc n) names letters start found text h = rw h refl

pieces_suc : (n m : ℕ) (names : Definitions) (letters : Letters) (start : ℕ) (found : List Value) (text : List ℕ) → n ≡ m + 1 → is_last text ≡ false
    → pieces_after n names letters start found text
    ≡ and_then (piece_of names letters start found (skip_blanks (drop 1 text))) (λ more rest. pieces_after m names letters start more rest)
unfolding pieces_after
pieces_suc zero m names letters start found text e h = absurd (omega (arith, e))
pieces_suc (suc n) m names letters start found text e h =
    let same : n ≡ m = omega (arith, e) in
    rw h (ap (λ (i : ℕ). and_then (piece_of names letters start found (skip_blanks (drop 1 text)))
    (λ more rest. pieces_after i names letters start more rest)) same)

pub piece_read : (n m : ℕ) (names : Definitions) (letters : Letters) (start : ℕ) (found more : List Value) (text rest : List ℕ) → n ≡ m + 1
    → is_last text ≡ false
    → piece_of names letters start found (skip_blanks (drop 1 text)) ≡ Ok (more, rest)
    → pieces_after m names letters start more rest ≡ pieces_after n names letters start found text
piece_read n m names letters start found more text rest e h k = sym (pieces_suc n m names letters start found text e h
    ∙ ap (λ (read : Sequence). and_then read (λ found rest. pieces_after m names letters start found rest)) k)

pub piece_refused : (n m : ℕ) (names : Definitions) (letters : Letters) (start : ℕ) (found : List Value) (text : List ℕ) (fault : RowFault)
    → n ≡ m + 1 → is_last text ≡ false
    → piece_of names letters start found (skip_blanks (drop 1 text)) ≡ Err fault
    → pieces_after n names letters start found text ≡ Err fault
piece_refused n m names letters start found text fault e h k = pieces_suc n m names letters start found text e h
    ∙ ap (λ (read : Sequence). and_then read (λ found rest. pieces_after m names letters start found rest)) k

-- ---- random bytes

-- One more was appended.
pub one_drawn : (found new whole : List Value) (first next n m : ℕ) → n ≡ m + 1 → next ≡ first + 1
    → new ≡ found ++ just (Random first) ∷ [] → found ++ random_values first n ≡ whole → new ++ random_values next m ≡ whole
one_drawn found new whole first next zero m e follows grown so_far = absurd (omega (arith, e))
one_drawn found new whole first next (suc n) m e follows grown so_far =
    let same : m ≡ n = omega (arith, e) in
    ap (λ (v : List Value). v ++ random_values next m) grown
    ∙ (append_assoc found (just (Random first) ∷ []) (random_values next m)
    ∙ (ap (λ (k : ℕ). found ++ just (Random first) ∷ random_values k m) follows
    ∙ (ap (λ (k : ℕ). found ++ just (Random first) ∷ random_values (first + 1) k) same ∙ so_far)))

-- All were appended.
pub all_drawn : (found whole : List Value) (first n : ℕ) → n ≡ 0 → found ++ random_values first n ≡ whole → found ≡ whole
all_drawn found whole first zero e so_far = sym (append-nil found) ∙ so_far
all_drawn found whole first (suc n) e so_far = absurd (omega (arith, e))
