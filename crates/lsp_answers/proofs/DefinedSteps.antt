-- The values of the names that are defined, one use after another.
use Rattle.std.proofs.Common.{◌≡◌, ◌∙◌, ℕ, ◌+◌, ◌<◌, ◌≤◌, true, false, List, [], ◌∷◌, ◌++◌, length, take, map, refl, sym, ap, subst, append-nil, get_or}
use Rattle.std.proofs.lemmas.List.{map-append, take_all, take_more}
use Rattle.std.proofs.lemmas.List.Elements.{filter-append}
use Rattle.json_messages.specs.ValueLists.{HasValues}
use Rattle.json_messages.specs.declared.value_list.ValueList.{ValueList}
use Rattle.lsp_answers.specs.Lists.{defined, is_defined}
use Rattle.name_uses.specs.Uses.{Use}
use Rattle.name_uses.specs.Views.{use_view, use_views}
use Rattle.name_uses.specs.declared.name_use.NameUse.{NameUse}
use Rattle.serde_json.specs.Data.{Data}

module _ (g : Use → Data) where
  -- the values of those among the first uses
  abbrev pub AreDefined : List NameUse → ℕ → ValueList → Type 0
  AreDefined all i list = HasValues (map g (defined (use_views (take i all)))) list

  defined_more : (all : List NameUse) (i : ℕ) (e : NameUse) → i < length all
      → defined (use_views (take (i + 1) all)) ≡ defined (use_views (take i all)) ++ defined (use_view (get_or all i e) ∷ [])
  defined_more all i e within =
      ap (λ (us : List NameUse). defined (use_views us)) (take_more all i e within) ∙ ap defined (map-append use_view (take i all) (get_or all i e ∷ []))
      ∙ filter-append is_defined (use_views (take i all)) (use_view (get_or all i e) ∷ [])

  pub other_use : (all : List NameUse) (i : ℕ) (e : NameUse) (list : ValueList) → i < length all → is_defined (use_view (get_or all i e)) ≡ false
      → AreDefined all i list → AreDefined all (i + 1) list
  other_use all i e list within other so_far =
      let none : defined (use_view (get_or all i e) ∷ []) ≡ [] = rw other refl in
      let same = defined_more all i e within ∙ ap (λ (us : List Use). defined (use_views (take i all)) ++ us) none
      ∙ append-nil (defined (use_views (take i all))) in
      subst (λ (us : List Use). HasValues (map g us) list) (sym same) so_far

  pub one_more : (all : List NameUse) (i : ℕ) (e : NameUse) (list : ValueList) → i < length all → is_defined (use_view (get_or all i e)) ≡ true
      → HasValues (map g (defined (use_views (take i all))) ++ g (use_view (get_or all i e)) ∷ []) list → AreDefined all (i + 1) list
  one_more all i e list within is has =
      let one : defined (use_view (get_or all i e) ∷ []) ≡ use_view (get_or all i e) ∷ [] = rw is refl in
      let same = defined_more all i e within ∙ ap (λ (us : List Use). defined (use_views (take i all)) ++ us) one in
      subst (λ (ds : List Data). HasValues ds list) (sym (ap (map g) same
      ∙ map-append g (defined (use_views (take i all))) (use_view (get_or all i e) ∷ []))) has

  pub all_defined : (all : List NameUse) (i : ℕ) (list : ValueList) → length all ≤ i → AreDefined all i list → HasValues (map g (defined (use_views all))) list
  all_defined all i list past has = subst (λ (us : List NameUse). HasValues (map g (defined (use_views us))) list) (take_all i all past) has
