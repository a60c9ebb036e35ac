-- The data of a run, and how they are written. Source: mos65.
use Rattle.std.specs.Prelude.{◌≡◌, ℕ, true, List, ◌++◌, map, Option}
use Rattle.base64.specs.Engines.{standard}
use Rattle.base64.specs.GeneralPurpose.{encode_of}
use Rattle.model.specs.State.{State}
use Rattle.page_data.specs.Changes.{Tells}
use Rattle.page_data.specs.Format.{changes_in}
use Rattle.page_data.specs.Safe.{is_safe_text}
use Rattle.page_data.specs.Sent.{IsSent}
use Rattle.page_data.specs.Start.{start_at, start_bytes}
use Rattle.page_data.specs.Steps.{change_of}
use Rattle.page_writer.specs.Steps.{Made, last_of}

-- Some bytes are the records of steps from a start on. Decoded, they give the change of each step,
-- with the addresses that it has read and stored at. These changes lead from the start through the
-- states before each step to that after the last, and backwards from there.
pub record AreRecords (start : State) (steps : List Made) (records : List ℕ) : Type 0 where
  pub changes : changes_in records ≡ map (λ m. change_of m.given m.before m.after) steps
  pub told : Tells start records (map (λ m. m.before) steps) (last_of start steps)

-- Some bytes are the data of steps from a start on: read, they give the start, and then the
-- records.
pub record IsDataOf (start : State) (steps : List Made) (bytes : List ℕ) : Type 0 where
  pub records : List ℕ
  pub whole : bytes ≡ start_bytes start ++ records
  pub read : start_at start.bus.map bytes ≡ (start, records)
  pub are : AreRecords start steps records

-- Of some bytes a front was written in base64 and the rest waits, and nothing in it begins markup.
pub record IsSentSafely (held now : Option (List ℕ)) (bytes waiting : List ℕ) : Type 0 where
  pub sent : IsSent held now bytes waiting
  pub safe : is_safe_text (encode_of standard sent.sent) ≡ true
