-- A run that has ended, and the page around it.
use Rattle.std.proofs.Common.{◌≡◌, ◌∙◌, ℕ, List, ◌++◌, Option, ap}
use Rattle.std.proofs.KnownBytes.{Appends-trans}
use Rattle.std.specs.Io.KnownBytes.{Appends}
use Rattle.console.specs.Playing.{played}
use Rattle.console.specs.Turns.{Known, play_at}
use Rattle.console.specs.Written.{RanAs}
use Rattle.console.specs.declared.ending.Ending.{Ending}
use Rattle.console.proofs.Turning.{ran_as}
use Rattle.model.specs.Session.{Session}

-- A run over all of the input.
pub ran_whole : (until : Option ℕ) (limit : ℕ) (s t : Session) (first memo : Known) (input told left : List ℕ) (steps : ℕ) (why : Ending) → input ≡ told ++ left
    → played until limit (play_at s first (told ++ left)) ≡ record { steps = steps; ending = why; play = play_at t memo left }
    → RanAs (played until limit (play_at s first input)) (record { steps = steps; ending = why }) t left
ran_whole until limit s t first memo input told left steps why all ran =
    ran_as (played until limit (play_at s first input)) steps why t memo left (ap (λ (l : List ℕ). played until limit (play_at s first l)) all ∙ ran)

pub three_parts : (a b c d : Option (List ℕ)) (first second third : List ℕ) → Appends a b first → Appends b c second → Appends c d third
    → Appends a d (first ++ (second ++ third))
three_parts a b c d first second third one two three =
    Appends-trans a b d first (second ++ third) one (Appends-trans b c d second third two three)
