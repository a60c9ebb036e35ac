-- Bytes that were written in base64, in pieces. Source: mos65.
use Rattle.std.specs.Prelude.{◌≡◌, ℕ, ◌%◌, Option, List, ◌++◌, length}
use Rattle.std.specs.Io.KnownBytes.{Appends}
use Rattle.base64.specs.Engines.{standard}
use Rattle.base64.specs.GeneralPurpose.{encode_of}

-- Of some bytes a front of whole groups of three was written, and the rest is left: so what is
-- written next stands behind it as in one text.
pub record IsSent (held now : Option (List ℕ)) (before after : List ℕ) : Type 0 where
  pub sent : List ℕ
  pub whole : length sent % 3 ≡ 0
  pub parts : before ≡ sent ++ after
  pub appends : Appends held now (encode_of standard sent)
