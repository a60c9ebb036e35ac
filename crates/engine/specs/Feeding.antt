-- What the engine does with its input byte by byte, as the lines come.
use Rattle.std.specs.Prelude.{ℕ, Bool, true, false, List, [], ◌∷◌, ◌++◌, length, nat_lt, ◌==◌, if◌then◌else◌}
use Rattle.std.specs.Io.BufRead.{strip_last}
use Rattle.model.specs.Session.{Session}
use Rattle.model.specs.Commands.{command_of}
use Rattle.model.specs.Transcript.{Answer, answer_to}

-- Some bytes of an input served: what was written, the session then, what is kept of the line
-- begun, whether the engine ended.
pub record Fed : Type 0 where
  pub written : List ℕ
  pub session : Session
  pub kept : List ℕ
  pub quit : Bool

abbrev pub fed : List ℕ → Session → List ℕ → Bool → Fed
fed text s kept quit = record { written = text; session = s; kept = kept; quit = quit }

abbrev pub fed_after : List ℕ → Fed → Fed
fed_after text r
    = record { written = text ++ r.written; session = r.session; kept = r.kept; quit = r.quit }

abbrev pub fed_on : Answer → (Session → Fed) → Fed
fed_on a rest = if a.quit then fed a.written a.session [] true
    else fed_after a.written (rest a.session)

-- One more byte of a line, of which no more than 257 bytes are kept: 255, one CR, and one that
-- makes the line too long.
abbrev pub kept_with : List ℕ → ℕ → List ℕ
kept_with kept b = if nat_lt (length kept) 257 then kept ++ b ∷ [] else kept

unfoldable pub feed : Session → List ℕ → List ℕ → Fed
feed s kept [] = fed [] s kept false
feed s kept (b ∷ bs) = if b == 10
    then fed_on (answer_to (command_of (strip_last 13 kept)) s) (λ t. feed t [] bs)
    else feed s (kept_with kept b) bs
