-- Values put behind others, one for each item.
use Rattle.std.proofs.Common.{Bor, ℕ, ◌+◌, ◌<◌, ◌≤◌, ◌∙◌, List, [], ◌∷◌, ◌++◌, length, take, map, get_or, sym, ap, append_assoc, append-nil, subst}
use Rattle.std.proofs.lemmas.List.{map-append, take_all, take_more}
use Rattle.json_messages.specs.ValueLists.{HasValues}
use Rattle.json_messages.specs.declared.value_list.ValueList.{ValueList}
use Rattle.lsp_answers.specs.Written.{directive_item as directive_data}
use Rattle.serde_json.specs.Data.{Data}

-- what may be written for a directive, with what it does
abbrev pub directive_item : Bor (List ℕ) × Bor (List ℕ) → Data
directive_item d = directive_data d.0.now d.1.now

-- none yet
pub none_behind : (ds : List Data) (list : ValueList) → HasValues ds list → HasValues (ds ++ []) list
none_behind ds list has = subst (λ (es : List Data). HasValues es list) (sym (append-nil ds)) has

module _ {A : Type 0} (g : A → Data) (ds : List Data) where
  -- those of the first items
  abbrev pub AreBehind : List A → ℕ → ValueList → Type 0
  AreBehind all i list = HasValues (ds ++ map g (take i all)) list

  pub next_behind : (all : List A) (i : ℕ) (e : A) (list : ValueList) → i < length all
      → HasValues ((ds ++ map g (take i all)) ++ g (get_or all i e) ∷ []) list → AreBehind all (i + 1) list
  next_behind all i e list within put =
      let more = sym (map-append g (take i all) (get_or all i e ∷ [])) ∙ sym (ap (map g) (take_more all i e within)) in
      subst (λ (es : List Data). HasValues es list) (append_assoc ds (map g (take i all)) (g (get_or all i e) ∷ [])
      ∙ ap (λ (es : List Data). ds ++ es) more) put

  pub all_behind : (all : List A) (i : ℕ) (list : ValueList) → length all ≤ i → AreBehind all i list → HasValues (ds ++ map g all) list
  all_behind all i list past so_far = subst (λ (es : List Data). HasValues es list)
      (ap (λ (es : List Data). ds ++ es) (ap (map g) (take_all i all past))) so_far
