-- A page of a list whose values come one after another.
use Rattle.std.proofs.Common.{◌≡◌, ◌∙◌, ℕ, ◌+◌, ◌-◌, ◌<◌, ◌≤◌, ◌==◌, Bool, true, false, if◌then◌else◌, List, [], ◌∷◌, ◌++◌, length, length-drop, drop, take, map, get_or, Option, Some, None, refl, sym, ap, arith, subst}
use Rattle.std.proofs.lemmas.List.{drop-append-le, drop_all, length_push, map-append, take-append-le, take_all, take_more}
use Rattle.dap_messages.specs.declared.request.Page.{Page}
use Rattle.dap_messages.specs.SeenAnswers.{SeenItem}
use Rattle.dap_views.specs.Pages.{IsPage, at_most, left_of, page_of}
use Rattle.dap_views.specs.declared.paged.Paged.{Paged}
use Rattle.dap_messages.specs.ItemLists.{HasItems}
use Rattle.dap_messages.specs.declared.item_list.ItemList.{ItemList}

-- ---- what is known of how many are left

no_limit : (b : Bool) (n : ℕ) → None ≡ (if b then None else Some n) → b ≡ true
no_limit true n e = refl
no_limit false n e = absurd cc

has_limit : (b : Bool) (n m : ℕ) → Some m ≡ (if b then None else Some n) → (b ≡ false) × (m ≡ n)
has_limit true n m e = absurd cc
has_limit false n m e = (refl, cc)

by_limit : (b : Bool) (n m : ℕ) → n ≡ m → (if b then None else Some n) ≡ (if b then None else Some m)
by_limit b n m e = ap (λ (k : ℕ). if b then None else Some k) e

module _ (asked : Page) (ds : List SeenItem) (d : SeenItem) where
  abbrev more : List SeenItem
  more = ds ++ d ∷ []

  one_more : length more ≡ length ds + 1
  one_more = length_push ds d

  -- ---- in front of the page

  pub passed_by : (list : ItemList) (skip : ℕ) (left : Option ℕ) → 0 < skip
      → IsPage asked ds (record { list = list; skip = skip; left = left }) → IsPage asked more (record { list = list; skip = skip - 1; left = left })
  passed_by list skip left before is =
      let short : length more ≤ asked.first = omega (arith, one_more, before, is.1) in
      let none : drop asked.first more ≡ drop asked.first ds =
      drop_all asked.first more short ∙ sym (drop_all asked.first ds (omega (arith, one_more, short))) in
      let same : length ds - asked.first ≡ length more - asked.first = omega (arith, one_more, short) in (
        subst (λ (vs : List SeenItem). HasItems vs list) (sym (ap (λ (vs : List SeenItem). at_most asked.count vs) none)) is.0,
        omega (arith, one_more, is.1),
        is.2 ∙ by_limit (asked.count == 0) _ _ (ap (λ k. asked.count - k) same),
      )

  -- ---- on the page, or behind it

  behind : 0 ≡ asked.first - length ds → drop asked.first more ≡ drop asked.first ds ++ d ∷ []
  behind begun = drop-append-le asked.first ds (d ∷ []) (omega (arith, begun))

  begun_still : 0 ≡ asked.first - length ds → 0 ≡ asked.first - length more
  begun_still begun = omega (arith, one_more, begun)

  all_of : (count : ℕ) (vs : List SeenItem) → (count == 0) ≡ true → at_most count vs ≡ vs
  all_of count vs e = ap (λ b. if b then vs else take count vs) e

  some_of : (count : ℕ) (vs : List SeenItem) → (count == 0) ≡ false → at_most count vs ≡ take count vs
  some_of count vs e = ap (λ b. if b then vs else take count vs) e

  pub taken : (list new : ItemList) → IsPage asked ds (record { list = list; skip = 0; left = None })
      → HasItems (page_of asked ds ++ d ∷ []) new → IsPage asked more (record { list = new; skip = 0; left = None })
  taken list new is has =
      let unlimited = no_limit (asked.count == 0) _ is.2 in
      let old : page_of asked ds ≡ drop asked.first ds = all_of asked.count _ unlimited in
      let all : page_of asked ds ++ d ∷ [] ≡ page_of asked more =
      ap (λ (vs : List SeenItem). vs ++ d ∷ []) old ∙ sym (behind is.1) ∙ sym (all_of asked.count _ unlimited) in (
        subst (λ (vs : List SeenItem). HasItems vs new) all has,
        begun_still is.1,
        sym (ap (λ b. if b then None else Some (asked.count - (length more - asked.first))) unlimited),
      )

  pub left_out : (list : ItemList) → IsPage asked ds (record { list = list; skip = 0; left = Some 0 })
      → IsPage asked more (record { list = list; skip = 0; left = Some 0 })
  left_out list is =
      let limited = has_limit (asked.count == 0) _ 0 is.2 in
      let count = asked.count in
      let full : count ≤ length (drop asked.first ds) = omega (arith, length-drop asked.first ds, limited.1, is.1) in
      let same : page_of asked ds ≡ page_of asked more = some_of count _ limited.0 ∙ sym (take-append-le count (drop asked.first ds) (d ∷ []) full)
      ∙ ap (take count) (sym (behind is.1)) ∙ sym (some_of count _ limited.0) in
      let none : 0 ≡ count - (length more - asked.first) = omega (arith, one_more, limited.1, is.1) in (
        subst (λ (vs : List SeenItem). HasItems vs list) same is.0,
        begun_still is.1,
        ap (λ (k : ℕ). Some k) none ∙ sym (ap (λ b. if b then None else Some (count - (length more - asked.first))) limited.0),
      )

  pub taken_last : (list new : ItemList) (left : ℕ) → 0 < left → IsPage asked ds (record { list = list; skip = 0; left = Some left })
      → HasItems (page_of asked ds ++ d ∷ []) new → IsPage asked more (record { list = new; skip = 0; left = Some (left - 1) })
  taken_last list new left some is has =
      let limited = has_limit (asked.count == 0) _ left is.2 in
      let count = asked.count in
      let room : length (drop asked.first ds) < count = omega (arith, length-drop asked.first ds, limited.1, is.1, some) in
      let longer : length (drop asked.first ds ++ d ∷ []) ≡ length (drop asked.first ds) + 1 = length_push (drop asked.first ds) d in
      let old : page_of asked ds ≡ drop asked.first ds = some_of count _ limited.0 ∙ take_all count (drop asked.first ds) (omega (arith, room)) in
      let whole : take count (drop asked.first ds ++ d ∷ []) ≡ drop asked.first ds ++ d ∷ [] = take_all count _ (omega (arith, room, longer)) in
      let all : page_of asked ds ++ d ∷ [] ≡ page_of asked more =
      ap (λ (vs : List SeenItem). vs ++ d ∷ []) old ∙ sym whole ∙ ap (take count) (sym (behind is.1)) ∙ sym (some_of count _ limited.0) in
      let rest : left - 1 ≡ count - (length more - asked.first) = omega (arith, one_more, limited.1, is.1, some) in (
        subst (λ (vs : List SeenItem). HasItems vs new) all has,
        begun_still is.1,
        ap (λ (k : ℕ). Some k) rest ∙ sym (ap (λ b. if b then None else Some (count - (length more - asked.first))) limited.0),
      )

-- ---- a value for each of some items

module _ {A : Type 0} (g : A → SeenItem) (asked : Page) where
  pub next_paged : (all : List A) (i : ℕ) (e : A) (made : Paged) → i < length all → IsPage asked (map g (take i all) ++ g (get_or all i e) ∷ []) made
      → IsPage asked (map g (take (i + 1) all)) made
  next_paged all i e made within is =
      subst (λ (ds : List SeenItem). IsPage asked ds made) (sym (map-append g (take i all) (get_or all i e ∷ []))
      ∙ sym (ap (map g) (take_more all i e within))) is

  pub all_paged : (all : List A) (i : ℕ) (made : Paged) → length all ≤ i → IsPage asked (map g (take i all)) made → IsPage asked (map g all) made
  all_paged all i made past is = subst (λ (ds : List SeenItem). IsPage asked ds made) (ap (map g) (take_all i all past)) is
