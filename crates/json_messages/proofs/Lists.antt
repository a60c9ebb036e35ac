-- Values appended one after another, one for each of a list.
use Rattle.std.proofs.Common.{◌≡◌, ◌∙◌, ℕ, ◌+◌, ◌<◌, ◌≤◌, List, [], ◌∷◌, ◌++◌, length, take, drop, map, get_or, refl, sym, ap, append_assoc, append-nil, add-one, drop-cons, subst}
use Rattle.std.proofs.lemmas.List.{drop_all, map-append, take_all, take_more}
use Rattle.std.specs.declared.alloc.Global.{Global}
use Rattle.std.specs.Prelude.{Vec}
use Rattle.serde_json.specs.Data.{Data}
use Rattle.serde_json.specs.View.{view}
use Rattle.serde_json.specs.declared.value.Value.{Value, Array}
use Rattle.serde_json.proofs.Views.{view-Array}
use Rattle.json_messages.specs.Values.{list_of}
use Rattle.json_messages.specs.ValueLists.{HasValues}
use Rattle.json_messages.specs.declared.value_list.ValueList.{ValueList}

module _ {A : Type 0} (g : A → Data) where
  -- one more
  pub listed_more : (all : List A) (i : ℕ) (e : A) (found new : List Value) (v : Value) → i < length all → view v ≡ g (get_or all i e) → new ≡ found ++ v ∷ []
      → map view found ≡ map g (take i all) → map view new ≡ map g (take (i + 1) all)
  listed_more all i e found new v within is put so_far =
      ap (map view) put ∙ map-append view found (v ∷ []) ∙ ap (λ (ds : List Data). ds ++ view v ∷ []) so_far
      ∙ ap (λ (d : Data). map g (take i all) ++ d ∷ []) is
      ∙ sym (map-append g (take i all) (get_or all i e ∷ [])) ∙ sym (ap (map g) (take_more all i e within))

  -- the list of all
  pub listed : (all : List A) (i : ℕ) (found : Vec Value Global) → length all ≤ i → map view found.items ≡ map g (take i all)
      → view (Array found) ≡ list_of (map g all)
  listed all i found past so_far = view-Array found ∙ ap list_of (so_far ∙ ap (map g) (take_all i all past))

  -- ---- the same behind others: what is still to come is that of the items from an index on

  unfoldable pub left : List A → ℕ → List Data
  left all i = map g (drop i all)

  pub left_more : (all : List A) (i : ℕ) (e : A) (found new : List Value) (v : Value) (whole : List Data) → i < length all
      → view v ≡ g (get_or all i e) → new ≡ found ++ v ∷ []
      → map view found ++ left all i ≡ whole → map view new ++ left all (i + 1) ≡ whole
  unfolding left
  left_more all i e found new v whole within is put so_far =
      let cut : drop i all ≡ get_or all i e ∷ drop (i + 1) all = rw (add-one, drop-cons all i e) refl in
      let at : left all i ≡ view v ∷ left all (i + 1) = ap (map g) cut ∙ ap (λ (d : Data). d ∷ left all (i + 1)) (sym is) in
      ap (λ (ds : List Data). ds ++ left all (i + 1)) (ap (map view) put ∙ map-append view found (v ∷ []))
      ∙ append_assoc (map view found) (view v ∷ []) (left all (i + 1))
      ∙ sym (ap (λ (ds : List Data). map view found ++ ds) at) ∙ so_far

  pub left_done : (all : List A) (i : ℕ) (found whole : List Data) → length all ≤ i → found ++ left all i ≡ whole → found ≡ whole
  unfolding left
  left_done all i found whole past so_far =
      let none : left all i ≡ [] = ap (map g) (drop_all i all past) in
      sym (append-nil found) ∙ sym (ap (λ (ds : List Data). found ++ ds) none) ∙ so_far

  pub left_all : (all : List A) → left all 0 ≡ map g all
  unfolding left
  left_all all = refl

  -- ---- the same in a list that is made one value after another

  pub next_value : (all : List A) (i : ℕ) (e : A) (list : ValueList) → i < length all → HasValues (map g (take i all) ++ g (get_or all i e) ∷ []) list
      → HasValues (map g (take (i + 1) all)) list
  next_value all i e list within has =
      subst (λ (ds : List Data). HasValues ds list) (sym (map-append g (take i all) (get_or all i e ∷ [])) ∙ sym (ap (map g) (take_more all i e within))) has

  pub all_values : (all : List A) (i : ℕ) (list : ValueList) → length all ≤ i → HasValues (map g (take i all)) list → HasValues (map g all) list
  all_values all i list past has = subst (λ (ds : List Data). HasValues ds list) (ap (map g) (take_all i all past)) has
