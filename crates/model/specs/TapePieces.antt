-- Tapes that are read in pieces: what can be returned while the text still goes on, and the longest
-- text.
use Rattle.std.specs.Prelude.{◌≡◌, ℕ, ◌<◌, ◌≤◌, List, ◌++◌, length, ◌⊎◌, Option}
use Rattle.model.specs.declared.tape.TapeFault.{TapeFault}
use Rattle.model.specs.declared.tape.TapeFaultKind.TheVariants.{TooLong}
use Rattle.model.specs.Tape.{TapeDenotes, FirstFault}

-- The most bytes of a tape that is read in pieces. Source: mos65.
abbrev pub longest : ℕ
longest = 4294967295

-- The fault at the first byte after them. Source: mos65.
abbrev pub too_long : TapeFault
too_long = record { offset = 4294967295; kind = TooLong }

-- The first bytes of a text show a fault: it is the first fault, however the text goes on. Source:
-- mos65.
abbrev pub Tells : List ℕ → TapeFault → Type 0
Tells front fault = (more : List ℕ) → FirstFault (front ++ more) fault.kind fault.offset

-- A text read in pieces has an image: it is not too long, and denotes it. Source: mos65.
pub record IsReadInPieces (text : List ℕ) (cells : List (Option ℕ)) : Type 0 where
  pub short : length text ≤ longest
  pub denoted : TapeDenotes text cells

-- A text that is too long, by what its longest front shows. Source: mos65.
pub record IsTooLong (text : List ℕ) (fault : TapeFault) : Type 0 where
  pub front : List ℕ
  pub more : List ℕ
  pub spelled : text ≡ front ++ more
  pub full : length front ≡ longest
  pub some : 0 < length more
  -- the fault that the front shows; that the text is too long if it shows none
  pub told : Tells front fault
      ⊎ (((other : TapeFault) → Tells front other → ⊥) × (fault ≡ too_long))

-- A text read in pieces is rejected with a fault: its first one, or that of a text that is too
-- long. Source: mos65.
abbrev pub IsRefusedInPieces : List ℕ → TapeFault → Type 0
IsRefusedInPieces text fault = ((length text ≤ longest) × FirstFault text fault.kind fault.offset)
    ⊎ IsTooLong text fault
