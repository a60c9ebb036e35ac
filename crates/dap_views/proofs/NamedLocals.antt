-- Locals with their names, one after another.
use Rattle.std.proofs.Common.{◌≡◌, ◌∙◌, ℕ, ◌+◌, ◌<◌, ◌≤◌, List, [], ◌∷◌, ◌++◌, length, drop, get_or, map, Option, None, refl, sym, ap, add-one, append_assoc, append-nil, drop-cons, subst}
use Rattle.std.proofs.lemmas.List.{drop_all, get_or-map, length-map}
use Rattle.c_frames.specs.declared.locals.Local.{Local}
use Rattle.dap_views.specs.Locals.{SeenLocal, named_if, named_locals}
use Rattle.source_map.specs.Functions.{LocalView, local_view}
use Rattle.source_map.specs.declared.functions.CLocal.{CLocal}

cut : {A : Type 0} (xs : List A) (i : ℕ) (d : A) → i < length xs → drop i xs ≡ get_or xs i d ∷ drop (i + 1) xs
cut xs i d within = rw (add-one, drop-cons xs i d within) refl

module _ (names : List CLocal) (locals : List (Option Local)) where
  abbrev views : List LocalView
  views = map local_view names

  abbrev pub left : ℕ → List SeenLocal
  left i = named_locals (drop i views) (drop i locals)

  pub named_more : (i : ℕ) (e : CLocal) (old new whole : List SeenLocal) → i < length names → length locals ≡ length names
      → e ≡ get_or names i e → new ≡ old ++ named_if (local_view e) (get_or locals i None)
      → old ++ left i ≡ whole → new ++ left (i + 1) ≡ whole
  named_more i e old new whole within same is put so_far =
      let here = named_if (local_view e) (get_or locals i None) in
      let first : get_or views i (local_view e) ≡ local_view e
      = get_or-map local_view names i e (local_view e) within ∙ sym (ap local_view is) in
      let name : drop i views ≡ local_view e ∷ drop (i + 1) views
      = cut views i (local_view e) (subst (λ n. i < n) (sym (length-map names local_view)) within)
      ∙ ap (λ (v : LocalView). v ∷ drop (i + 1) views) first in
      let local : drop i locals ≡ get_or locals i None ∷ drop (i + 1) locals = cut locals i None (subst (λ n. i < n) (sym same) within) in
      let both : left i ≡ here ++ left (i + 1) = λ j. named_locals (name j) (local j) in
      ap (λ (l : List SeenLocal). l ++ left (i + 1)) put ∙ append_assoc old here (left (i + 1))
      ∙ sym (ap (λ (l : List SeenLocal). old ++ l) both) ∙ so_far

  pub named_done : (i : ℕ) (found whole : List SeenLocal) → length names ≤ i → found ++ left i ≡ whole → found ≡ whole
  named_done i found whole past so_far =
      let none : drop i views ≡ [] = drop_all i views (subst (λ n. n ≤ i) (sym (length-map names local_view)) past) in
      sym (append-nil found) ∙ sym (ap (λ (l : List LocalView). found ++ named_locals l (drop i locals)) none) ∙ so_far
