-- The way along the lines of a source.
use Rattle.std.proofs.Common.{◌≡◌, ◌∙◌, ℕ, ◌+◌, ◌<◌, ◌≤◌, List, [], ◌∷◌, ◌++◌, length, drop, refl, sym, ap, arith, append_assoc, append-nil, get_or, add-one, drop-cons, Option, None, Some}
use Rattle.std.proofs.Math.ListN.{drop_of_length-le}
use Rattle.std.specs.Borrow.{Bor}
use Rattle.std.proofs.lemmas.List.Sums.{prefix_len-le-length}
use Rattle.std.specs.Prelude.{min}
use Rattle.model.specs.TextLines.{lines_from, lines_of}
use Rattle.source_notes.specs.Lines.{name_of, names_from, texts_of, with_name}

pub ruleset name_steps = prefix_len-le-length

pub texts-append : (xs ys : List (Bor (List ℕ))) → texts_of (xs ++ ys) ≡ texts_of xs ++ texts_of ys
texts-append [] ys = refl
texts-append (x ∷ xs) ys = ap (λ t. x.now ∷ t) (texts-append xs ys)

pub none_left : (xs : List ℕ) → length xs ≡ 0 → xs ≡ []
none_left [] h = refl
none_left (x ∷ xs) h = absurd (omega (arith, h))

-- no line is left
pub lines_end : (xs : List (Bor (List ℕ))) (rest : List ℕ) → rest ≡ [] → texts_of xs ++ lines_of rest ≡ texts_of xs
unfolding lines_from
lines_end xs rest e = ap (λ r. texts_of xs ++ lines_of r) e ∙ append-nil (texts_of xs)

-- one line more
pub line_more : (xs ys : List (Bor (List ℕ))) (line : Bor (List ℕ)) (all behind : List (List ℕ)) → ys ≡ xs ++ line ∷ []
    → all ≡ line.now ∷ behind → texts_of ys ++ behind ≡ texts_of xs ++ all
line_more xs ys line all behind f g = rw (f, g, texts-append, append_assoc) refl

with_one : (name : Option (List ℕ)) (number : ℕ) (names : List (List ℕ × ℕ)) → with_name name number [] ++ names ≡ with_name name number names
with_one None number names = refl
with_one (Some name) number names = refl

pub name_more : (before number i : ℕ) (d : Bor (List ℕ)) (lines : List (Bor (List ℕ))) (names found : List (List ℕ × ℕ)) → i < length lines
    → number ≡ min (before + 1) 4294967295
    → found ≡ names ++ with_name (name_of (get_or lines i d).now) number []
    → found ++ names_from number (texts_of (drop (i + 1) lines)) ≡ names ++ names_from before (texts_of (drop i lines))
unfolding names_from
name_more before number i d lines names found h e f =
    let line = (get_or lines i d).now in
    let rest = names_from number (texts_of (drop (i + 1) lines)) in
    let cut : drop i lines ≡ get_or lines i d ∷ drop (i + 1) lines = rw (add-one, drop-cons lines i d) refl in
    ap (λ t. t ++ rest) f
    ∙ (append_assoc names (with_name (name_of line) number []) rest
    ∙ (ap (λ t. names ++ t) (with_one (name_of line) number rest)
    ∙ (ap (λ n. names ++ with_name (name_of line) n (names_from n (texts_of (drop (i + 1) lines)))) e
    ∙ sym (ap (λ xs. names ++ names_from before (texts_of xs)) cut))))

pub names_end : (before i : ℕ) (lines : List (Bor (List ℕ))) (names : List (List ℕ × ℕ)) → length lines ≤ i
    → names ++ names_from before (texts_of (drop i lines)) ≡ names
unfolding names_from
names_end before i lines names h =
    ap (λ xs. names ++ names_from before (texts_of xs)) (drop_of_length-le lines h) ∙ append-nil names
