-- What a watched writer was told grows as what it holds does.
use Rattle.std.proofs.Common.{◌≡◌, ℕ, Bool, true, false, List, [], ◌∷◌, ◌++◌, Option, Some, None, bytes_eq, refl, sym, ap, ◌∙◌, append-nil, append_assoc}
use Rattle.std.proofs.lemmas.Slice.Eq.{bytes_eq-Decides}
use Rattle.std.specs.Io.KnownBytes.{Appends}
use Rattle.word_debug.specs.Told.{framed, known_framed, has_grown, text_if, told_to}

same_eq : (xs ys : List ℕ) → xs ≡ ys → bytes_eq xs ys ≡ true
same_eq xs ys = (bytes_eq-Decides xs ys).1

grown_at_first : (held : Option (List ℕ)) → has_grown held held [] ≡ true
grown_at_first None = refl
grown_at_first (Some held) = same_eq held (held ++ []) (sym (append-nil held))

pub told_nothing : (held : Option (List ℕ)) → told_to held held [] ≡ Some (known_framed held)
told_nothing held = rw (grown_at_first held, append-nil (known_framed held)) refl

grown_is : (held now : Option (List ℕ)) (told : List ℕ) → has_grown held now told ≡ true → Appends held now told
grown_is None now told grown = tt
grown_is (Some held) None told grown = cc
grown_is (Some held) (Some now) told grown = (bytes_eq-Decides now (held ++ told)).0 grown

is_grown : (held now : Option (List ℕ)) (told : List ℕ) → Appends held now told → has_grown held now told ≡ true
is_grown None now told grown = refl
is_grown (Some held) None told grown = absurd grown
is_grown (Some held) (Some now) told grown = same_eq now (held ++ told) grown

grown_more : (held now later : Option (List ℕ)) (told bs : List ℕ) → Appends held now told → Appends now later bs
    → Appends held later (told ++ bs)
grown_more None now later told bs before grown = tt
grown_more (Some held) None later told bs before grown = absurd before
grown_more (Some held) (Some now) None told bs before grown = absurd grown
grown_more (Some held) (Some now) (Some later) told bs before grown = grown ∙ ap (λ xs. xs ++ bs) before ∙ append_assoc held told bs

more_if : (b : Bool) (held now later : Option (List ℕ)) (told bs : List ℕ) → has_grown held now told ≡ b → Appends now later bs
    → Appends (text_if b (known_framed held ++ told)) (told_to held later (told ++ bs)) bs
more_if false held now later told bs is grown = tt
more_if true held now later told bs is grown =
    let after = is_grown held later (told ++ bs) (grown_more held now later told bs (grown_is held now told is) grown) in
    rw after (sym (append_assoc (known_framed held) told bs))

pub told_more : (held now later : Option (List ℕ)) (told bs : List ℕ) → Appends now later bs
    → Appends (told_to held now told) (told_to held later (told ++ bs)) bs
told_more held now later told bs grown = more_if (has_grown held now told) held now later told bs refl grown

-- ---- what was written is what was told

framed_apart : (xs ys us vs : List ℕ) → framed xs ++ us ≡ framed ys ++ vs → (xs ≡ ys) × (us ≡ vs)
unfolding framed
framed_apart [] [] us vs same = (refl, cc)
framed_apart [] (y ∷ ys) us vs same = cc
framed_apart (x ∷ xs) [] us vs same = cc
framed_apart (x ∷ xs) (y ∷ ys) us vs same =
    let rest : framed xs ++ us ≡ framed ys ++ vs = cc in
    let apart = framed_apart xs ys us vs rest in
    (cc, apart.1)

known_apart : (xs ys : Option (List ℕ)) (us vs : List ℕ) → known_framed xs ++ us ≡ known_framed ys ++ vs → (xs ≡ ys) × (us ≡ vs)
known_apart None None us vs same = (refl, cc)
known_apart None (Some ys) us vs same = cc
known_apart (Some xs) None us vs same = cc
known_apart (Some xs) (Some ys) us vs same =
    let rest : framed xs ++ us ≡ framed ys ++ vs = cc in
    let apart = framed_apart xs ys us vs rest in
    (ap Some apart.0, apart.1)

passed_if : (b : Bool) (held first now : Option (List ℕ)) (told text : List ℕ) → has_grown first now told ≡ b
    → Appends (Some (known_framed held)) (text_if b (known_framed first ++ told)) text
    → (told ≡ text) × Appends held now text
passed_if false held first now told text is wrote = absurd wrote
passed_if true held first now told text is wrote =
    let apart = known_apart first held told text wrote in
    (apart.1, rw (apart.0, apart.1) at (grown_is first now told is))

-- A text that was written to a watch went on to its writer, and was told.
pub passed : (held first now : Option (List ℕ)) (told text : List ℕ) → Appends (Some (known_framed held)) (told_to first now told) text
    → (told ≡ text) × Appends held now text
passed held first now told text wrote = passed_if (has_grown first now told) held first now told text refl wrote
