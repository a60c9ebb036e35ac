-- Items that are written one after another, and items that are appended one after another.
use Rattle.std.proofs.Common.{◌≡◌, ◌∙◌, ℕ, ◌+◌, ◌<◌, ◌≤◌, List, [], ◌∷◌, ◌++◌, length, take, map, get_or, sym, ap, subst}
use Rattle.std.proofs.lemmas.List.{append_assoc, map-append, take_all, take_more}
use Rattle.dap_messages.specs.ItemLists.{HasItems}
use Rattle.dap_messages.specs.SeenAnswers.{SeenItem, item_view}
use Rattle.dap_messages.specs.Written.{item_data}
use Rattle.dap_messages.specs.declared.item.Item.{Item}
use Rattle.dap_messages.specs.declared.item_list.ItemList.{ItemList}
use Rattle.serde_json.specs.Data.{Data}

-- what an item is written as
abbrev pub written : Item → Data
written e = item_data (item_view e)

module _ {A : Type 0} (g : A → SeenItem) where
  pub next_item : (all : List A) (i : ℕ) (e : A) (list : ItemList) → i < length all → HasItems (map g (take i all) ++ g (get_or all i e) ∷ []) list
      → HasItems (map g (take (i + 1) all)) list
  next_item all i e list within has =
      subst (λ (ds : List SeenItem). HasItems ds list) (sym (map-append g (take i all) (get_or all i e ∷ [])) ∙ sym (ap (map g) (take_more all i e within))) has

  pub all_items : (all : List A) (i : ℕ) (list : ItemList) → length all ≤ i → HasItems (map g (take i all)) list → HasItems (map g all) list
  all_items all i list past has = subst (λ (ds : List SeenItem). HasItems ds list) (ap (map g) (take_all i all past)) has

-- one after another behind others: the others, and all of them
module _ {A : Type 0} where
  pub four_behind : (ds : List A) (a b c d : A) → ds ++ a ∷ [] ++ b ∷ [] ++ c ∷ [] ++ d ∷ [] ≡ ds ++ (a ∷ b ∷ c ∷ d ∷ [])
  four_behind ds a b c d =
      append_assoc (ds ++ a ∷ [] ++ b ∷ []) (c ∷ []) (d ∷ []) ∙ append_assoc (ds ++ a ∷ []) (b ∷ []) (c ∷ d ∷ []) ∙ append_assoc ds (a ∷ []) (b ∷ c ∷ d ∷ [])

  pub six_behind : (ds : List A) (a b c d e f : A) → ds ++ a ∷ [] ++ b ∷ [] ++ c ∷ [] ++ d ∷ [] ++ e ∷ [] ++ f ∷ [] ≡ ds ++ (a ∷ b ∷ c ∷ d ∷ e ∷ f ∷ [])
  six_behind ds a b c d e f =
      four_behind (ds ++ a ∷ [] ++ b ∷ []) c d e f ∙ append_assoc (ds ++ a ∷ []) (b ∷ []) (c ∷ d ∷ e ∷ f ∷ [])
      ∙ append_assoc ds (a ∷ []) (b ∷ c ∷ d ∷ e ∷ f ∷ [])
