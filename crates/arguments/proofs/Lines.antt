-- What the error stream got: the parts of a line, one after another.
use Rattle.std.proofs.Common.{◌≡◌, ◌∙◌, ℕ, suc, ◌+◌, ◌<◌, ◌≤◌, List, [], ◌∷◌, ◌++◌, Option, Result, Ok, Err, sym, ap, refl, subst, append-nil, append_assoc, add-one, get_or, length, drop, take, take-append-drop}
use Rattle.std.proofs.Math.Seq.{drop-cons, take-suc}
use Rattle.std.proofs.lemmas.List.{map-append, take_all}
use Rattle.std.proofs.KnownBytes.{Appends-trans}
use Rattle.std.specs.Borrow.{Bor}
use Rattle.std.specs.Io.KnownBytes.{Appends}
use Rattle.clap.specs.Words.{Text}
use Rattle.model.specs.Writers.{AppendsFront, Writes}
use Rattle.model.proofs.Written.{front_after, front_more}
use Rattle.arguments.specs.FaultLines.{joined}
use Rattle.arguments.specs.Words.{texts}

-- All of a text is a beginning of it.
pub front_of : {X E : Type 0} (a b : Option (List ℕ)) (xs : List ℕ) (r : Result X E) → Writes a b xs r → AppendsFront a b xs
front_of a b xs (Ok x) p = (xs, [], sym (append-nil xs), p)
front_of a b xs (Err e) p = p

joined_first : (x : List ℕ) (xs : List (List ℕ)) → joined (x ∷ xs) ≡ x ++ joined xs
joined_first x [] = sym (append-nil x)
joined_first x (y ∷ ys) = refl

joined-append : (xs ys : List (List ℕ)) → joined (xs ++ ys) ≡ joined xs ++ joined ys
joined-append [] ys = refl
joined-append (x ∷ xs) ys =
    joined_first x (xs ++ ys) ∙ ap (λ l. x ++ l) (joined-append xs ys) ∙ sym (append_assoc x (joined xs) (joined ys))
    ∙ ap (λ l. l ++ joined ys) (sym (joined_first x xs))

-- The parts of which some are written, the next, and the others.
split : (parts : List (Bor Text)) (i : ℕ) (d : Bor Text) → i < length parts
    → joined (texts parts) ≡ joined (texts (take i parts)) ++ ((get_or parts i d).now ++ joined (texts (drop (suc i) parts)))
split parts i d h =
    let whole : parts ≡ take i parts ++ (get_or parts i d ∷ drop (suc i) parts) =
    sym (take-append-drop i parts) ∙ ap (λ l. take i parts ++ l) (drop-cons parts i d h) in
    ap (λ l. joined (texts l)) whole
    ∙ ap joined (map-append (λ (s : Bor Text). s.now) (take i parts) (get_or parts i d ∷ drop (suc i) parts))
    ∙ joined-append (texts (take i parts)) (texts (get_or parts i d ∷ drop (suc i) parts))
    ∙ ap (λ l. joined (texts (take i parts)) ++ l) (joined_first (get_or parts i d).now (texts (drop (suc i) parts)))

one_more : (parts : List (Bor Text)) (i : ℕ) (d : Bor Text) → i < length parts
    → joined (texts (take (suc i) parts)) ≡ joined (texts (take i parts)) ++ (get_or parts i d).now
one_more parts i d h =
    ap (λ l. joined (texts l)) (take-suc parts i d h)
    ∙ ap joined (map-append (λ (s : Bor Text). s.now) (take i parts) (get_or parts i d ∷ []))
    ∙ joined-append (texts (take i parts)) (texts (get_or parts i d ∷ []))

module _ (a b : Option (List ℕ)) (parts : List (Bor Text)) (i : ℕ) (written : Appends a b (joined (texts (take i parts)))) where
  -- One part more was written.
  pub more_written : (c : Option (List ℕ)) (d : Bor Text) → i < length parts → Appends b c (get_or parts i d).now
      → Appends a c (joined (texts (take (i + 1) parts)))
  more_written c d h p =
      let whole : joined (texts (take (i + 1) parts)) ≡ joined (texts (take i parts)) ++ (get_or parts i d).now = rw (add-one) (one_more parts i d h) in
      subst (Appends a c) (sym whole) (Appends-trans a b c (joined (texts (take i parts))) (get_or parts i d).now written p)

  -- A beginning of the next part was written.
  pub front_written : (c : Option (List ℕ)) (d : Bor Text) → i < length parts → AppendsFront b c (get_or parts i d).now
      → AppendsFront a c (joined (texts parts))
  front_written c d h p =
      subst (AppendsFront a c) (sym (split parts i d h))
      (front_after a b c (joined (texts (take i parts))) ((get_or parts i d).now ++ joined (texts (drop (suc i) parts))) written
      (front_more b c (get_or parts i d).now (joined (texts (drop (suc i) parts))) p))

  -- All parts were written.
  pub all_written : length parts ≤ i → AppendsFront a b (joined (texts parts))
  all_written h =
      let whole : take i parts ≡ parts = take_all i parts h in
      (joined (texts parts), [], sym (append-nil (joined (texts parts))), subst (λ (l : List (Bor Text)). Appends a b (joined (texts l))) whole written)
