-- What a page shows when it is opened, as facts behind those of its program. Source: mos65.
use Rattle.std.specs.Prelude.{ℕ, List, [], ◌++◌, codes, decimal, Option, Some, None}
use Rattle.std.specs.List.{flat_map}
use Rattle.model.specs.Text.{hex_address}
use Rattle.page_writer.specs.declared.opening.Note.{Note}
use Rattle.page_writer.specs.declared.opening.Opening.{Opening}

-- How many steps were made when the page is opened.
unfoldable pub step_fact : Option ℕ → List ℕ
step_fact None = []
step_fact (Some step) = codes "at " ++ (decimal step ++ codes "\n")

-- The first address of a screen.
unfoldable pub screen_line : ℕ → List ℕ
screen_line address = codes "screen " ++ (hex_address address ++ codes "\n")

abbrev pub screen_fact : Option ℕ → List ℕ
screen_fact None = []
screen_fact (Some address) = screen_line address

-- A note: how many steps were made when it is shown, and what it says.
unfoldable pub note_fact : Note → List ℕ
note_fact note = codes "note " ++ (decimal note.step ++ (codes " "
    ++ (note.text.now ++ codes "\n")))

unfoldable pub opening_text : Opening → List ℕ
opening_text opening = step_fact opening.step ++ (screen_fact opening.screen
    ++ flat_map note_fact opening.notes.now)
