-- A page of a list. Source: Debug Adapter Protocol 1.65, "Variables Request", "StackTrace Request":
-- all from the first one on, where the count is 0 or missing.
use Rattle.std.specs.Prelude.{ℕ, ◌-◌, ◌==◌, ◌≡◌, if◌then◌else◌, List, drop, length, take, Option, Some, None}
use Rattle.dap_messages.specs.declared.request.Page.{Page}
use Rattle.dap_views.specs.declared.paged.Paged.{Paged}
use Rattle.dap_messages.specs.ItemLists.{HasItems}
use Rattle.dap_messages.specs.SeenAnswers.{SeenItem}

abbrev pub at_most : {A : Type 0} → ℕ → List A → List A
at_most count xs = if count == 0 then xs else take count xs

-- The values from the first one on that is asked for, 0 being the first of all.
abbrev pub page_of : {A : Type 0} → Page → List A → List A
page_of asked xs = at_most asked.count (drop asked.first xs)

-- ---- one value after another

-- How many values a page takes at most, if it does not take all.
abbrev pub limit : ℕ → Option ℕ
limit count = if count == 0 then None else Some count

-- How many more it takes, where the list has so many so far.
abbrev pub left_of : Page → ℕ → Option ℕ
left_of asked n = if asked.count == 0 then None
    else Some (asked.count - (n - asked.first))

-- The page has what it is to have of these values, and knows how many are to be left out, and how
-- many it takes.
abbrev pub IsPage : Page → List SeenItem → Paged → Type 0
IsPage asked ds made = HasItems (page_of asked ds) made.list
    × (made.skip ≡ asked.first - length ds) × (made.left ≡ left_of asked (length ds))
