-- What is written of a name so far, and what is still to be written of it.
use Rattle.std.proofs.Common.{◌≡◌, ◌∙◌, ◌≤◌, ℕ, List, [], ◌∷◌, ◌++◌, Option, Result, Ok, Err, map, map-id, length, length-append, take, drop, take-append-drop, flat_map, append-nil, append_assoc, sym, ap, subst, arith}
use Rattle.std.proofs.lemmas.Grind.{flat_map-append}
use Rattle.std.proofs.KnownBytes.{Appends-trans}
use Rattle.std.specs.Io.KnownBytes.{Appends}
use Rattle.model.specs.Writers.{AppendsFront, Writes}
use Rattle.model.proofs.Written.{front_after, front_more}
use Rattle.arguments.specs.Shown.{shown_char}

-- Of the characters so far, these bytes are still to be written.
abbrev pub IsPart : Option (List ℕ) → Option (List ℕ) → List ℕ → List ℕ → Type 0
IsPart held now so_far items = (done : List ℕ) × Appends held now done × (flat_map shown_char so_far ≡ done ++ items)

module _ (held : Option (List ℕ)) where
  pub put_part : (mid now : Option (List ℕ)) (so_far items left : List ℕ) → IsPart held mid so_far items → Appends mid now items → left ≡ []
      → IsPart held now so_far left
  put_part mid now so_far items left (done, p, is) q none =
      (done ++ items, Appends-trans held mid now done items p q, is ∙ sym (append-nil (done ++ items)) ∙ ap (λ l. (done ++ items) ++ l) (sym none))

  pub more_part : (now : Option (List ℕ)) (so_far items shown new : List ℕ) (c : ℕ) → IsPart held now so_far items → shown ≡ shown_char c
      → new ≡ items ++ shown → IsPart held now (so_far ++ c ∷ []) new
  more_part now so_far items shown new c (done, p, is) s n = (
    done,
    p,
    flat_map-append shown_char so_far (c ∷ []) ∙ ap (λ l. flat_map shown_char so_far ++ l) (append-nil (shown_char c))
        ∙ ap (λ l. l ++ shown_char c) is ∙ append_assoc done items (shown_char c)
        ∙ ap (λ l. done ++ l) (ap (λ l. items ++ l) (sym s) ∙ sym n),
  )

  split : (so_far all : List ℕ) → map (λ c. c) so_far ≡ take (length so_far) all
      → flat_map shown_char all ≡ flat_map shown_char so_far ++ flat_map shown_char (drop (length so_far) all)
  split so_far all front =
      let here : so_far ≡ take (length so_far) all = sym (map-id so_far) ∙ front in
      ap (flat_map shown_char) (sym (take-append-drop (length so_far) all)) ∙ flat_map-append shown_char (take (length so_far) all) (drop (length so_far) all)
      ∙ ap (λ l. flat_map shown_char l ++ flat_map shown_char (drop (length so_far) all)) (sym here)

  pub part_failed : (mid now : Option (List ℕ)) (so_far all items : List ℕ) → map (λ c. c) so_far ≡ take (length so_far) all
      → IsPart held mid so_far items → AppendsFront mid now items
      → AppendsFront held now (flat_map shown_char all)
  part_failed mid now so_far all items front (done, p, is) q =
      let rest = flat_map shown_char (drop (length so_far) all) in
      subst (AppendsFront held now) (sym (split so_far all front ∙ ap (λ l. l ++ rest) is ∙ append_assoc done items rest))
      (front_after held mid now done (items ++ rest) p (front_more mid now items rest q))

  pub all_parts : {E : Type 0} (mid now : Option (List ℕ)) (so_far all items : List ℕ) (result : Result (Unit {0}) E) → so_far ≡ all
      → IsPart held mid so_far items → Writes mid now items result
      → Writes held now (flat_map shown_char all) result
  all_parts mid now so_far all items (Ok x) same (done, p, is) q =
      subst (Appends held now) (sym is ∙ ap (flat_map shown_char) same) (Appends-trans held mid now done items p q)
  all_parts mid now so_far all items (Err e) same (done, p, is) q =
      subst (AppendsFront held now) (sym is ∙ ap (flat_map shown_char) same) (front_after held mid now done items p q)

pub short_part : (items shown new : List ℕ) → new ≡ items ++ shown → length shown ≤ 4 → length items ≤ 60 → length new ≤ 64
short_part items shown new n s i = omega (arith, ap length n, length-append items shown)

pub none_short : (items : List ℕ) → items ≡ [] → length items ≤ 60
none_short items none = omega (arith, ap length none)
