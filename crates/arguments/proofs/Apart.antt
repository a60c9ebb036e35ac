-- Files that are written, each with another name than those that are read and those before it.
use Rattle.std.specs.Borrow.{Bor}
use Rattle.std.proofs.Common.{◌≡◌, ◌∙◌, ℕ, suc, ◌+◌, ◌<◌, false, List, [], ◌∷◌, ◌++◌, ◌||◌, Option, Some, None, refl, sym, ap, take, drop, length, get_or, drop-cons, add-one, map, ◌≤◌}
use Rattle.std.proofs.Math.ListN.{drop_of_length-le, get_or-map}
use Rattle.std.proofs.Math.Seq.{take-suc}
use Rattle.std.proofs.lemmas.List.{append-nil, append_assoc, length-map, take-map}
use Rattle.std.proofs.lemmas.List.Folds.{list_any-append}
use Rattle.clap.specs.Words.{Text}
use Rattle.arguments.specs.Outputs.{clash, is_among, is_named, named}

pub clash_begun : (r w : List (Option Text)) → clash r w ≡ clash (r ++ take 0 w) (drop 0 w)
clash_begun r w = ap (λ l. clash l w) (sym (append-nil r))

is_none_among : (r w : List (Option Text)) (file : Option Text) → is_among r file ≡ false → is_among w file ≡ false → is_among (r ++ w) file ≡ false
is_none_among r w None _ _ = refl
is_none_among r w (Some name) a b = list_any-append (is_named name) r w ∙ (ap (λ x. x || is_among w (Some name)) a ∙ b)

clash_joined : (r w : List (Option Text)) (i : ℕ) → i < length w → is_among r (get_or w i None) ≡ false
    → is_among (take i w) (get_or w i None) ≡ false → clash (r ++ take i w) (drop i w) ≡ clash (r ++ take (i + 1) w) (drop (i + 1) w)
unfolding clash
clash_joined r w i h a b =
    let file : Option Text = get_or w i None in
    let rest : List (Option Text) = drop (suc i) w in
    let cut : clash (r ++ take i w) (drop i w) ≡ clash (r ++ take i w) (file ∷ rest) = ap (clash (r ++ take i w)) (drop-cons w i None h) in
    let apart : clash (r ++ take i w) (file ∷ rest) ≡ clash (r ++ take i w ++ (file ∷ [])) rest =
    ap (λ x. x || clash (r ++ take i w ++ (file ∷ [])) rest) (is_none_among r (take i w) file a b) in
    let joined : clash (r ++ take i w ++ (file ∷ [])) rest ≡ clash (r ++ take (suc i) w) rest =
    ap (λ l. clash l rest) (append_assoc r (take i w) (file ∷ []) ∙ ap (λ l. r ++ l) (sym (take-suc w i None h))) in
    rw (add-one) (cut ∙ (apart ∙ joined))

pub clash_stepped : (r : List (Option Text)) (files : List (Option (Bor Text))) (i : ℕ) → i < length files
    → is_among r (named (get_or files i None)) ≡ false → is_among (map named (take i files)) (named (get_or files i None)) ≡ false
    → clash (r ++ take i (map named files)) (drop i (map named files)) ≡ clash (r ++ take (i + 1) (map named files)) (drop (i + 1) (map named files))
clash_stepped r files i h a b =
    let within : i < length (map named files) = rw (length-map files named) h in
    let same : get_or (map named files) i None ≡ named (get_or files i None) = get_or-map named files i None in
    let apart : is_among (take i (map named files)) (named (get_or files i None)) ≡ false =
    ap (λ l. is_among l (named (get_or files i None))) (take-map named i files) ∙ b in
    clash_joined r (map named files) i within (ap (is_among r) same ∙ a) (ap (is_among (take i (map named files))) same ∙ apart)

pub clash_ended : {X : Type 0} (f : X → Option Text) (r : List (Option Text)) (files : List X) (i : ℕ) → length files ≤ i
    → clash (r ++ take i (map f files)) (drop i (map f files)) ≡ false
unfolding clash
clash_ended f r files i h =
    let all : length (map f files) ≤ i = rw (length-map files f) h in
    ap (clash (r ++ take i (map f files))) (drop_of_length-le (map f files) all)
