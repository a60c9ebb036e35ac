-- Changes of the text of a document. Source: Language Server Protocol 3.17,
-- "DidChangeTextDocument Notification", "TextDocumentContentChangeEvent"; what is no such change, or
-- has a range that ends before it begins, leaves a text that is not known, mos65.
use Rattle.std.specs.Prelude.{ℕ, nat_lt, if◌then◌else◌, List, ◌++◌, take, drop, codes, Option, Some, None, Vec}
use Rattle.std.specs.Option.{option_map}
use Rattle.std.specs.declared.alloc.Global.{Global}
use Rattle.json_messages.specs.Fields.{number_at, text_at}
use Rattle.lsp_messages.specs.TextPlaces.{place_in}
use Rattle.lsp_messages.specs.declared.text_changes.TextChange.{TextChange}
use Rattle.lsp_messages.specs.declared.text_changes.TextChange.TheVariants as kinds
use Rattle.lsp_messages.specs.declared.text_places.Place.{Place}
use Rattle.serde_json.specs.Data.{Data, Items, no_items, item}
use Rattle.serde_json.specs.Find.{pointer}

-- The whole text is another one; a text stands between two places; what is no change.
pub data ChangeView : Type 0 where
  whole : List ℕ → ChangeView
  part : Place → Place → List ℕ → ChangeView
  wrong : ChangeView

-- ---- a change that is read

abbrev pub place_by : Option ℕ → Option ℕ → Option Place
place_by (Some line) (Some character) = Some (record { line = line; character = character })
place_by line character = None

abbrev pub place_at : List ℕ → List ℕ → Data → Option Place
place_at line character change = place_by (number_at line change) (number_at character change)

abbrev pub part_by : Option Place → Option Place → List ℕ → ChangeView
part_by (Some from) (Some to) text = part from to text
part_by from to text = wrong

-- Without a range it is of the whole text.
abbrev pub change_by : Option (List ℕ) → Option Data → Data → ChangeView
change_by None range change = wrong
change_by (Some text) None change = whole text
change_by (Some text) (Some range) change = part_by
    (place_at (codes "/range/start/line") (codes "/range/start/character") change)
    (place_at (codes "/range/end/line") (codes "/range/end/character") change) text

abbrev pub change_of : Data → ChangeView
change_of change
    = change_by (text_at (codes "/text") change) (pointer (codes "/range") change) change

-- ---- a text after changes, if it is known

-- What stands before the first place, the new text, and what stands behind the second place.
abbrev pub between : ℕ → ℕ → List ℕ → List ℕ → Option (List ℕ)
between start end new text
    = if nat_lt end start then None else Some (take start text ++ new ++ drop end text)

abbrev pub with_part : Place → Place → List ℕ → List ℕ → Option (List ℕ)
with_part from to new text = between (place_in text from) (place_in text to) new text

abbrev pub changed_by : Option (List ℕ) → ChangeView → Option (List ℕ)
changed_by text (whole new) = Some new
changed_by (Some text) (part from to new) = with_part from to new text
changed_by None (part from to new) = None
changed_by text wrong = None

-- Each change is of the text that the one before left.
unfoldable pub changed_text : Option (List ℕ) → Items → Option (List ℕ)
changed_text text no_items = text
changed_text text (item change changes)
    = changed_text (changed_by text (change_of change)) changes

-- ---- without where the texts lie in memory

abbrev pub text_view : Option (Vec ℕ Global) → Option (List ℕ)
text_view text = option_map (λ t. t.items) text

abbrev pub change_view : TextChange → ChangeView
change_view (kinds.Whole text) = whole text.now
change_view (kinds.Part from to text) = part from to text.now
change_view kinds.Wrong = wrong
