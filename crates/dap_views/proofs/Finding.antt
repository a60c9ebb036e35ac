-- Breakpoints that are looked for, one after another.
use Rattle.std.proofs.Common.{◌≡◌, ◌∙◌, Option, ℕ, ◌+◌, ◌<◌, ◌≤◌, List, [], ◌∷◌, ◌++◌, length, take, map, get_or, sym, ap, append-nil}
use Rattle.std.proofs.lemmas.Grind.{flat_map-append}
use Rattle.std.proofs.lemmas.List.{map-append, take_all, take_more}
use Rattle.std.specs.List.{flat_map}
use Rattle.dap_views.specs.Found.{AreStops, AreTold, Found, HasFound, Stop, stop_view, told_of, told_view}
use Rattle.dap_views.specs.declared.wanted.List.{List as WantedList}

module _ {W : Type 0} (find : W → Found) where
  abbrev tells : W → Option ℕ × List ℕ
  tells w = told_of (find w)

  abbrev sets : W → List Stop
  sets w = (find w).1

  -- the first of a list were looked for
  unfoldable pub AreFound : List W → ℕ → WantedList → Type 0
  AreFound all i list = (map told_view list.told.items ≡ map tells (take i all))
      × (map stop_view list.stops.items ≡ flat_map sets (take i all))

  pub none_found : (all : List W) (list : WantedList) → list.told.items ≡ [] → list.stops.items ≡ [] → AreFound all 0 list
  unfolding AreFound
  none_found all list told stops = (ap (map told_view) told, ap (map stop_view) stops)

  pub one_found : (all : List W) (i : ℕ) (e : W) (old new : WantedList) → i < length all → HasFound (find (get_or all i e)) old new
      → AreFound all i old → AreFound all (i + 1) new
  unfolding AreFound
  one_found all i e old new within found so_far =
      let v = get_or all i e in
      let more : take (i + 1) all ≡ take i all ++ v ∷ [] = take_more all i e within in (
        found.0 ∙ ap (λ (l : List (Option ℕ × List ℕ)). l ++ tells v ∷ []) so_far.0 ∙ sym (map-append tells (take i all) (v ∷ []))
            ∙ sym (ap (map tells) more),
        found.1 ∙ ap (λ (l : List Stop). l ++ sets v) so_far.1 ∙ ap (λ (l : List Stop). flat_map sets (take i all) ++ l) (sym (append-nil (sets v)))
            ∙ sym (flat_map-append sets (take i all) (v ∷ [])) ∙ sym (ap (flat_map sets) more),
      )

  pub all_found : (all : List W) (i : ℕ) (list : WantedList) → length all ≤ i → AreFound all i list → AreTold find all list.told.items
      × AreStops find all list.stops.items
  unfolding AreFound
  all_found all i list past so_far = (
    so_far.0 ∙ ap (map tells) (take_all i all past),
    so_far.1 ∙ ap (flat_map sets) (take_all i all past),
  )
