-- What a word has written of its answer. Source: mos65.
use Rattle.std.specs.Prelude.{ℕ, Bool, List, Option}
use Rattle.std.specs.Io.KnownBytes.{Appends}
use Rattle.model.specs.Writers.{AppendsFront}

-- A text that can be said was written, of the kind that the status means.
pub record Tells (IsSaid : Bool → List ℕ → Type 0) (is_right : Bool)
    (held now : Option (List ℕ)) : Type 0 where
  pub said : List ℕ
  pub about : IsSaid is_right said
  pub written : Appends held now said

-- A beginning of a text that can be said was written.
pub record TellsFront (IsSaid : Bool → List ℕ → Type 0) (held now : Option (List ℕ)) : Type 0 where
  pub is_right : Bool
  pub said : List ℕ
  pub about : IsSaid is_right said
  pub written : AppendsFront held now said
