-- What was read of a text of records. Source: mos65.
use Rattle.std.specs.Prelude.{◌≡◌, ℕ, ◌+◌, nat_lt, ◌&&◌, if◌then◌else◌, is_some, List, [], ◌∷◌, length, Option, Some, Result, Ok, Err, slice_set}
use Rattle.model.specs.Image.{cell_at, empty_image, with_bytes}
use Rattle.image_reader.specs.declared.fault.LineFault.{LineFault}
use Rattle.image_reader.specs.declared.fault.RecordFaultKind.TheVariants.{PastEnd}
use Rattle.image_reader.specs.declared.form.TextForm.{TextForm}
use Rattle.image_reader.specs.declared.reading.Place.{Place}
use Rattle.image_reader.specs.declared.reading.Place.TheVariants.{Open}
use Rattle.image_reader.specs.Records.{at}

pub record Progress : Type 0 where
  pub form : TextForm
  pub cells : List (Option ℕ)
  -- a cell at each address for which more than one data record has a byte
  pub again : List (Option ℕ)
  -- Intel HEX: what is added to the offset of a data record
  pub base : ℕ
  -- S-records: how many data records there were, up to one more than a count record can say
  pub count : ℕ
  pub place : Place

-- Nothing was read.
abbrev pub start : TextForm → Progress
start form = record {
  form = form;
  cells = empty_image;
  again = empty_image;
  base = 0;
  count = 0;
  place = Open;
}

-- A cell at an address where there is a byte already.
abbrev pub with_again_at : List (Option ℕ) → List (Option ℕ) → ℕ → List (Option ℕ)
with_again_at cells again address = if is_some (cell_at cells address)
    then slice_set again address (Some 0) else again

-- The same at each address of some bytes, from an address on.
abbrev pub with_again : List (Option ℕ) → List (Option ℕ) → ℕ → List ℕ → List (Option ℕ)
with_again cells again address [] = again
with_again cells again address (b ∷ bytes)
    = with_again cells (with_again_at cells again address) (address + 1) bytes

-- Data from an address on, in place of what is there. No byte may be past address 65535; a record
-- without data may be at any address. The column is that of the address.
unfoldable pub stored : ℕ → ℕ → List ℕ → Progress → Result Progress LineFault
stored column address bytes s =
    if nat_lt 0 (length bytes) && nat_lt 65536 (address + length bytes)
    then Err (at PastEnd column)
    else Ok (record s {
      cells = with_bytes s.cells address bytes;
      again = with_again s.cells s.again address bytes;
    })

-- What a step of the code returned, and what it left, is what the step gives. After a fault
-- nothing is said of what it left.
abbrev pub Gives : Result Unit LineFault → Progress → Result Progress LineFault → Type 0
Gives (Ok u) new gives = gives ≡ Ok new
Gives (Err f) new gives = gives ≡ Err f
