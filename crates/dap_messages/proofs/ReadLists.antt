-- What a request lists, read one after another.
use Rattle.std.proofs.Common.{◌≡◌, ◌∙◌, ℕ, ◌+◌, ◌<◌, ◌≤◌, List, [], ◌∷◌, ◌++◌, length, take, map, get_or, refl, sym, ap}
use Rattle.std.proofs.lemmas.List.{map-append, take_all, take_more}
use Rattle.std.proofs.lemmas.Simd.{map-map}
use Rattle.dap_messages.specs.Requests.{items_in, list_in, listed_in}
use Rattle.serde_json.specs.Data.{Data}
use Rattle.serde_json.specs.View.{items_of, items_view, view}
use Rattle.serde_json.specs.declared.value.Value.{Value}

listed_of : (ds : List Data) → list_in (items_of ds) ≡ ds
listed_of [] = refl
listed_of (d ∷ ds) = ap (λ (rest : List Data). d ∷ rest) (listed_of ds)

module _ {A B : Type 0} (read : Data → B) (seen : A → B) where
  -- the first of a list were read
  unfoldable pub AreRead : List Value → ℕ → List A → Type 0
  AreRead all i list = map seen list ≡ map (λ (v : Value). read (view v)) (take i all)

  pub none_read : (all : List Value) (list : List A) → list ≡ [] → AreRead all 0 list
  unfolding AreRead
  none_read all list none = ap (map seen) none

  pub one_read : (all : List Value) (i : ℕ) (e : Value) (b : A) (old new : List A) → i < length all → e ≡ get_or all i e → seen b ≡ read (view e)
      → new ≡ old ++ b ∷ []
      → AreRead all i old → AreRead all (i + 1) new
  unfolding AreRead
  one_read all i e b old new within is one put so_far =
      let g : Value → B = λ v. read (view v) in
      ap (map seen) put ∙ map-append seen old (b ∷ []) ∙ ap (λ (bs : List B). bs ++ seen b ∷ []) so_far
      ∙ ap (λ (x : B). map g (take i all) ++ x ∷ []) (one ∙ ap g is)
      ∙ sym (map-append g (take i all) (get_or all i e ∷ [])) ∙ sym (ap (map g) (take_more all i e within))

  pub all_read : (all : List Value) (i : ℕ) (list : List A) (request : Data) → length all ≤ i → items_view all ≡ items_in request → AreRead all i list
      → map seen list ≡ map read (listed_in request)
  unfolding AreRead
  all_read all i list request past items so_far =
      so_far ∙ ap (map (λ (v : Value). read (view v))) (take_all i all past) ∙ sym (map-map read view all)
      ∙ ap (map read) (sym (listed_of (map view all)) ∙ ap list_in items)

pub same_list : {A : Type 0} (xs : List A) → map (λ (x : A). x) xs ≡ xs
same_list [] = refl
same_list (x ∷ xs) = ap (λ (rest : List _). x ∷ rest) (same_list xs)
