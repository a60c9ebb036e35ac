-- What the status 2 says of `info`.
use Rattle.std.proofs.Common.{◌≡◌, None, false, arith}
use Rattle.arguments.specs.Statuses.{status_of}
use Rattle.arguments.specs.declared.refusal.Refusal.{Refusal}
use Rattle.arguments.specs.declared.refusal.Refusal.TheVariants.{Words, Map, Source, Tape, Session, OutOfMemory, Read, Write, WriteFile}
use Rattle.model.specs.State.{is_map}
use Rattle.word_info.specs.Word.{EndsInfo}
use Rattle.tape_words.specs.Asked.{InfoAsked}

map_of : (asked : InfoAsked) (f : Refusal) → EndsInfo asked f → status_of f ≡ 2 → is_map None asked.port ≡ false
map_of asked Words ends two = absurd ends
map_of asked (Map fault) ends two = ends.1
map_of asked (Source fault) ends two = absurd ends
map_of asked (Tape fault) ends two = absurd (omega (arith, two))
map_of asked (Session fault) ends two = absurd ends
map_of asked OutOfMemory ends two = absurd (omega (arith, two))
map_of asked (Read why) ends two = absurd (omega (arith, two))
map_of asked Write ends two = absurd ends
map_of asked (WriteFile why) ends two = absurd ends

pub no_map : (asked : InfoAsked) → (f : Refusal) × EndsInfo asked f × (status_of f ≡ 2) → is_map None asked.port ≡ false
no_map asked p = map_of asked p.0 p.1 p.2
