-- What is taken from a reader, and why nothing is. Source: mos65.
use Rattle.std.specs.Prelude.{ℕ, ◌+◌, ◌≡◌, ◌||◌, ◌==◌, not, min, nat_lt, Bool, if◌then◌else◌, List, [], length, Option}
use Rattle.std.specs.Io.KnownBytes.{IsAtEnd}
use Rattle.json_messages.specs.Messages.{front_of}
use Rattle.json_messages.specs.declared.fault.StreamFault.{StreamFault}
use Rattle.json_messages.specs.declared.fault.StreamFault.TheVariants as fault
use Rattle.json_messages.specs.declared.front.Front.TheVariants as front

-- ---- what is held

-- The bytes that were read and belong to no message that was taken, and how many bytes were read:
-- the largest number of 64 bits if they are more.
pub record Held : Type 0 where
  pub bytes : List ℕ
  pub count : ℕ

abbrev pub unread : Held
unread = record { bytes = []; count = 0 }

-- So many bytes, and some more.
abbrev pub count_with : ℕ → List ℕ → ℕ
count_with count told = if length told == 0 then count
    else min (count + length told) 18446744073709551615

-- Where so many bytes have come, some wait to be taken: they are held, or they were not read.
abbrev pub has_more : Held → ℕ → Bool
has_more held come = not (length held.bytes == 0) || nat_lt held.count come

-- ---- what is taken

-- The stream has ended behind a message: no byte is held, and so much is left to read.
abbrev pub IsOver : List ℕ → Option (List ℕ) → Type 0
IsOver bytes left = (bytes ≡ []) × IsAtEnd left

-- Why no message is taken of bytes that were read, if so much is left to read.
abbrev pub IsUntaken : List ℕ → Option (List ℕ) → StreamFault → Type 0
IsUntaken bytes left fault.NoLength = front_of bytes ≡ front.NoLength
IsUntaken bytes left fault.LongHeader = front_of bytes ≡ front.LongHeader
IsUntaken bytes left fault.Cut = (front_of bytes ≡ front.Open) × IsAtEnd left
IsUntaken bytes left fault.Read = Unit {0}
IsUntaken bytes left fault.OutOfMemory = Unit {0}
IsUntaken bytes left fault.Write = ⊥

-- Why no bytes are read.
abbrev pub IsUnread : StreamFault → Type 0
IsUnread fault.Read = Unit {0}
IsUnread fault.OutOfMemory = Unit {0}
IsUnread fault = ⊥

-- Why a message is not written.
abbrev pub IsUnwritten : StreamFault → Type 0
IsUnwritten fault.Write = Unit {0}
IsUnwritten fault.OutOfMemory = Unit {0}
IsUnwritten fault = ⊥
