-- Words that fit, and words that do not.
use Rattle.std.proofs.Common.{◌≡◌, ℕ, List, [], Option, None, arith, refl, subst}
use Rattle.std.proofs.KnownBytes.{Consumes-nil}
use Rattle.std.specs.Io.KnownBytes.{Appends}
use Rattle.arguments.specs.Words.{AsksForHelp, Fits, IsRefusalOf, IsStatusOf}
use Rattle.arguments.specs.declared.fault.WordsFault.{WordsFault}
use Rattle.arguments.specs.declared.fault.WordsFault.TheVariants.{Help, OutOfMemory, Usage, Value, Wrong}
use Rattle.clap.specs.Words.{App, IsAmong, Text, kind_of}
use Rattle.clap.specs.declared.error.kind.ErrorKind.TheVariants as kind
use Rattle.word_dap.specs.Attended.{CutsOff, Turns}
use Rattle.word_dap.specs.declared.adapter.Adapter.{Adapter}
use Rattle.json_messages.proofs.Sessions.{cut_between, unserved}
use Rattle.json_messages.specs.declared.fault.StreamFault.TheVariants as fault

pub asked_help : (app : App) (words : List Text) (f : WordsFault) (status : ℕ) → IsRefusalOf app words ⊥ f → IsStatusOf f status → status ≡ 0
    → AsksForHelp app words
asked_help app words (Help text) status is said zero = is.1
asked_help app words (Usage text) status is said zero = absurd (omega (arith, said, zero))
asked_help app words Value status is said zero = absurd is.1
asked_help app words (Wrong which) status is said zero = absurd is.1
asked_help app words OutOfMemory status is said zero = absurd (omega (arith, said, zero))

pub fits_memory : (app : App) (words : List Text) (f : WordsFault) (status : ℕ) → Fits app words → IsRefusalOf app words ⊥ f → IsStatusOf f status → status ≡ 3
fits_memory app words (Help text) status fits is said = absurd (subst (IsAmong kind.DisplayHelp) fits is.1)
fits_memory app words (Usage text) status fits is said = absurd (subst (IsAmong (kind_of text)) fits is.1)
fits_memory app words Value status fits is said = absurd is.1
fits_memory app words (Wrong which) status fits is said = absurd is.1
fits_memory app words OutOfMemory status fits is said = said

abbrev first : Adapter
first = record { counting = None; client = None }

-- Memory ran out before a message was read.
pub cut_first : (seen : Option Text) (status : ℕ) (given before after : Option (List ℕ)) → status ≡ 3 → Appends before after []
    → CutsOff seen status given given before after
cut_first seen status given before after three none = (
  fault.OutOfMemory,
  three,
  [],
  (
    first,
    refl,
    refl,
    cut_between (Turns seen) given given given [] [] (first, 0) (first, 0) fault.OutOfMemory []
        (unserved (Turns seen) given (first, 0)) (Consumes-nil given) tt,
  ),
  none,
)
