-- The way over the items of a side.
use Rattle.std.proofs.Common.{◌≡◌, ℕ, zero, suc, ◌+◌, Bool, true, false, List, [], ◌++◌, refl, ap, sym, ◌∙◌, append_assoc, append-nil, arith, Ok, Err}
use Rattle.std.proofs.lemmas.Bool.{false≢true}
use Rattle.model.specs.Names.{Definitions}
use Rattle.t65_values.specs.ValueText.{and_then}
use Rattle.t65_reader.specs.RowText.{Items, before, is_over, item_of, items_within, lack_at}
use Rattle.t65_values.specs.declared.fault.RowFault.{RowFault}
use Rattle.t65_reader.specs.declared.item.Side.{Side}
use Rattle.t65_reader.specs.declared.row.Item.{Item}
use Rattle.t65_values.specs.declared.value.Letters.{Letters}

pub before_none : (more : Items) → before [] more ≡ more
unfolding before
before_none (Ok (items, rest)) = refl
before_none (Err fault) = refl

before_two : (front items : List Item) (more : Items) → before front (before items more) ≡ before (front ++ items) more
unfolding before
before_two front items (Ok (others, rest)) = ap (λ (x : List Item). Ok (x, rest)) (sym (append_assoc front items others))
before_two front items (Err fault) = refl

pub over : (n : ℕ) (names : Definitions) (letters : Letters) (side : Side) (text : List ℕ) (front : List Item) → is_over side text ≡ true
    → before front (items_within n names letters side text) ≡ Ok (front, text)
unfolding before items_within
over zero names letters side text front h = rw h (ap (λ (x : List Item). Ok (x, text)) (append-nil front))
over (suc n) names letters side text front h = rw h (ap (λ (x : List Item). Ok (x, text)) (append-nil front))

pub not_over : (n : ℕ) (names : Definitions) (letters : Letters) (side : Side) (text : List ℕ) (front : List Item) → n ≡ 0 → is_over side text ≡ false
    → before front (items_within n names letters side text) ≡ Err (lack_at side text)
unfolding before items_within
not_over zero names letters side text front e h = rw h refl
not_over (suc n) names letters side text front e h = absurd (omega arith)

-- an item, and the items behind it
abbrev then_items : Items → (List ℕ → Items) → Items
then_items (Ok (items, rest)) next = before items (next rest)
then_items (Err fault) next = Err fault

abbrev items_in : Items → List Item
items_in (Ok read) = read.0
items_in (Err fault) = []

abbrev rest_in : Items → List ℕ
rest_in (Ok read) = read.1
rest_in (Err fault) = []

abbrev is_read : Items → Bool
is_read (Ok read) = true
is_read (Err fault) = false

read_item : (front found : List Item) (rest : List ℕ) (item : Items) (next : List ℕ → Items) → before front item ≡ Ok (found, rest)
    → before front (then_items item next) ≡ before found (next rest)
unfolding before
read_item front found rest (Ok (items, behind)) next h =
    let e : front ++ items ≡ found = ap items_in h in
    let r : behind ≡ rest = ap rest_in h in
    before_two front items (next behind) ∙ (ap (λ (x : List Item). before x (next behind)) e ∙ ap (λ (t : List ℕ). before found (next t)) r)
read_item front found rest (Err fault) next h = absurd (false≢true (ap is_read h))

within_more : (n : ℕ) (names : Definitions) (letters : Letters) (side : Side) (text : List ℕ) → is_over side text ≡ false
    → items_within (suc n) names letters side text ≡ then_items (item_of names letters side text) (items_within n names letters side)
unfolding items_within
within_more n names letters side text h = rw h (go (item_of names letters side text))
  where
    go : (item : Items) → and_then item (λ items rest. before items (items_within n names letters side rest))
        ≡ then_items item (items_within n names letters side)
    go (Ok (items, rest)) = refl
    go (Err fault) = refl

pub item_read : (n m : ℕ) (names : Definitions) (letters : Letters) (side : Side) (text rest : List ℕ) (front found : List Item) → n ≡ m + 1
    → is_over side text ≡ false
    → before front (item_of names letters side text) ≡ Ok (found, rest)
    → before found (items_within m names letters side rest) ≡ before front (items_within n names letters side text)
item_read zero m names letters side text rest front found e h k = absurd (omega arith)
item_read (suc n) m names letters side text rest front found e h k =
    let same : n ≡ m = omega arith in
    rw (← same) (sym (ap (before front) (within_more n names letters side text h)
    ∙ read_item front found rest (item_of names letters side text) (items_within n names letters side) k))

pub item_refused : (n m : ℕ) (names : Definitions) (letters : Letters) (side : Side) (text : List ℕ) (front : List Item) (fault : RowFault)
    → n ≡ m + 1 → is_over side text ≡ false
    → item_of names letters side text ≡ Err fault
    → before front (items_within n names letters side text) ≡ Err fault
unfolding before
item_refused zero m names letters side text front fault e h k = absurd (omega arith)
item_refused (suc n) m names letters side text front fault e h k = ap (before front) (within_more n names letters side text h) ∙ (rw k refl)
