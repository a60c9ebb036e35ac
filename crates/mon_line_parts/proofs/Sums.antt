-- The way over the terms of a sum, and over the pieces of a line.
use Rattle.std.proofs.Common.{◌≡◌, ℕ, zero, suc, ◌+◌, ℤ, Bool, true, false, List, [], ◌∷◌, Option, Some, None, cond, refl, ap, ◌∙◌, arith, Ok, Err}
use Rattle.std.specs.Str.{byte}
use Rattle.source_map.specs.Lines.{PlacesView}
use Rattle.mon_line_parts.specs.Reading.{Reads, SeenFlaw, after, and_then, is_empty, past, quoted_next}
use Rattle.mon_line_parts.specs.Values.{is_sign, piece_of, pieces_of, quoted_by, quoted_of, term_of, terms_of, with_piece}
use Rattle.mon_line_parts.specs.declared.values.Kind.{Kind}

pub no_sign : (n : ℕ) (places : PlacesView) (kind : Kind) (total : ℤ) (text : List ℕ) → is_sign text ≡ false
    → terms_of n places kind total text ≡ Ok (total, text)
unfolding terms_of
no_sign zero places kind total text h = refl
no_sign (suc n) places kind total text h = rw h refl

pub no_term_left : (n : ℕ) (places : PlacesView) (kind : Kind) (total : ℤ) (text : List ℕ) → n ≡ 0 → terms_of n places kind total text ≡ Ok (total, text)
unfolding terms_of
no_term_left zero places kind total text h = refl
no_term_left (suc n) places kind total text h = absurd (omega (arith, h))

pub term_read : (n m : ℕ) (places : PlacesView) (kind : Kind) (total sum : ℤ) (text rest : List ℕ) → n ≡ m + 1 → is_sign text ≡ true
    → term_of places kind total text ≡ Ok (sum, rest)
    → terms_of n places kind total text ≡ terms_of m places kind sum rest
unfolding terms_of
term_read zero m places kind total sum text rest e h k = absurd (omega (arith, e))
term_read (suc n) m places kind total sum text rest e h k =
    let same : n ≡ m = omega (arith, e) in
    rw h (ap (λ (r : Reads ℤ). and_then r (λ sum rest. terms_of n places kind sum rest)) k ∙ ap (λ (i : ℕ). terms_of i places kind sum rest) same)

pub term_refused : (n m : ℕ) (places : PlacesView) (kind : Kind) (total : ℤ) (text : List ℕ) (why : SeenFlaw) → n ≡ m + 1 → is_sign text ≡ true
    → term_of places kind total text ≡ Err why
    → terms_of n places kind total text ≡ Err why
unfolding terms_of
term_refused zero m places kind total text why e h k = absurd (omega (arith, e))
term_refused (suc n) m places kind total text why e h k = rw h (ap (λ (r : Reads ℤ). and_then r (λ sum rest. terms_of n places kind sum rest)) k)

-- what stands behind a piece
abbrev next_pieces : ℕ → PlacesView → List ℕ → List ℕ → Bool → Reads (List ℕ)
next_pieces n places more rest true = Ok (more, past (byte ",") rest)
next_pieces n places more rest false = pieces_of n places more (past (byte ",") rest)

pieces_suc : (n m : ℕ) (places : PlacesView) (found text more rest : List ℕ) → n ≡ m + 1 → piece_of places found text ≡ Ok (more, rest)
    → pieces_of n places found text ≡ next_pieces m places more rest (is_empty (past (byte ",") rest))
unfolding pieces_of
pieces_suc zero m places found text more rest e k = absurd (omega (arith, e))
pieces_suc (suc n) m places found text more rest e k =
    let same : n ≡ m = omega (arith, e) in
    rw (← same) (rw k (elim (is_empty (past (byte ",") rest)) as
    (λ (b : Bool). cond b (Ok (more, past (byte ",") rest)) (pieces_of n places more (past (byte ",") rest)) ≡ next_pieces n places more rest b)
    [ true ↦ refl | false ↦ refl ]))

pub pieces_end : (n m : ℕ) (places : PlacesView) (found text more rest : List ℕ) → n ≡ m + 1 → piece_of places found text ≡ Ok (more, rest)
    → is_empty (past (byte ",") rest) ≡ true
    → pieces_of n places found text ≡ Ok (more, past (byte ",") rest)
pieces_end n m places found text more rest e k h = pieces_suc n m places found text more rest e k ∙ ap (next_pieces m places more rest) h

pub pieces_more : (n m : ℕ) (places : PlacesView) (found text more rest : List ℕ) → n ≡ m + 1 → piece_of places found text ≡ Ok (more, rest)
    → is_empty (past (byte ",") rest) ≡ false
    → pieces_of n places found text ≡ pieces_of m places more (past (byte ",") rest)
pieces_more n m places found text more rest e k h = pieces_suc n m places found text more rest e k ∙ ap (next_pieces m places more rest) h

pub no_piece_left : (n : ℕ) (places : PlacesView) (found text : List ℕ) → n ≡ 0 → pieces_of n places found text ≡ Ok (found, text)
unfolding pieces_of
no_piece_left zero places found text h = refl
no_piece_left (suc n) places found text h = absurd (omega (arith, h))

pub piece_refused : (n m : ℕ) (places : PlacesView) (found text : List ℕ) (why : SeenFlaw) → n ≡ m + 1 → piece_of places found text ≡ Err why
    → pieces_of n places found text ≡ Err why
unfolding pieces_of
piece_refused zero m places found text why e k = absurd (omega (arith, e))
piece_refused (suc n) m places found text why e k = rw k refl

-- ---- the bytes between quotes

pub no_quoted_left : (n : ℕ) (found text : List ℕ) → n ≡ 0 → quoted_of n found text ≡ Ok (found, after 1 text)
unfolding quoted_of
no_quoted_left zero found text h = refl
no_quoted_left (suc n) found text h = absurd (omega (arith, h))

pub quoted_end : (n : ℕ) (found text : List ℕ) → quoted_next text ≡ None → quoted_of n found text ≡ Ok (found, after 1 text)
unfolding quoted_of
quoted_end zero found text h = refl
quoted_end (suc n) found text h = ap (λ (o : Option (ℕ × List ℕ)). quoted_by o found text (λ more behind. quoted_of n more behind)) h

quoted_suc : (n m b : ℕ) (found text rest : List ℕ) → n ≡ m + 1 → quoted_next text ≡ Some (b, rest)
    → quoted_of n found text ≡ and_then (with_piece found (b ∷ []) rest) (λ more behind. quoted_of m more behind)
unfolding quoted_of
quoted_suc zero m b found text rest e h = absurd (omega (arith, e))
quoted_suc (suc n) m b found text rest e h =
    let same : n ≡ m = omega (arith, e) in
    ap (λ (o : Option (ℕ × List ℕ)). quoted_by o found text (λ more behind. quoted_of n more behind)) h
    ∙ ap (λ (i : ℕ). and_then (with_piece found (b ∷ []) rest) (λ more behind. quoted_of i more behind)) same

pub quoted_more : (n m b : ℕ) (found text rest more behind : List ℕ) → n ≡ m + 1 → quoted_next text ≡ Some (b, rest)
    → with_piece found (b ∷ []) rest ≡ Ok (more, behind) → quoted_of n found text ≡ quoted_of m more behind
quoted_more n m b found text rest more behind e h k = quoted_suc n m b found text rest e h
    ∙ ap (λ (r : Reads (List ℕ)). and_then r (λ more behind. quoted_of m more behind)) k

pub quoted_refused : (n m b : ℕ) (found text rest : List ℕ) (why : SeenFlaw) → n ≡ m + 1 → quoted_next text ≡ Some (b, rest)
    → with_piece found (b ∷ []) rest ≡ Err why → quoted_of n found text ≡ Err why
quoted_refused n m b found text rest why e h k = quoted_suc n m b found text rest e h
    ∙ ap (λ (r : Reads (List ℕ)). and_then r (λ more behind. quoted_of m more behind)) k
