-- The uses of a name of a source.
use Rattle.std.proofs.Common.{◌≡◌, ◌∙◌, ℕ, true, false, List, [], ◌∷◌, length, sym, ap, true-eqb}
use Rattle.std.proofs.lemmas.List.{nil_from_length}
use Rattle.std.specs.Prelude.{◌==◌}
use Rattle.model.specs.declared.instruction.Profile.{Profile}
use Rattle.name_uses.specs.Picked.{picked}
use Rattle.name_uses.specs.Uses.{Use, uses_of}
use Rattle.name_uses.specs.Views.{use_view, use_views}
use Rattle.name_uses.specs.declared.name_use.NameUse.{NameUse}
use Rattle.name_uses.specs.declared.picks.Part.TheVariants.{All}
use Rattle.name_uses.specs.Renaming.{renamed, replaced, uses_named}

-- those that were picked are the name's
pub named_as : (name source : List ℕ) (p q : Profile) (all given found : List NameUse) → p ≡ q → use_views all ≡ uses_of p source → given ≡ all
    → use_views found ≡ picked All name (use_views given)
    → use_views found ≡ uses_named q source name
unfolding uses_named
named_as name source p q all given found e whole same h =
    h ∙ ap (λ (g : List NameUse). picked All name (use_views g)) same ∙ ap (λ (us : List Use). picked All name us) whole
    ∙ ap (λ (r : Profile). picked All name (uses_of r source)) e

-- and the text with another name there
pub renamed_as : (source old new : List ℕ) (q : Profile) (found given : List NameUse) (text : List ℕ) → use_views found ≡ uses_named q source old
    → given ≡ found → text ≡ replaced new (use_views given) 1 0 0 source
    → text ≡ renamed q source old new
unfolding renamed
renamed_as source old new q found given text named same h =
    h ∙ ap (λ (g : List NameUse). replaced new (use_views g) 1 0 0 source) same ∙ ap (λ (us : List Use). replaced new us 1 0 0 source) named

pub some_taken : (given found : List NameUse) (us : List Use) → false ≡ (length given == 0) → given ≡ found → use_views found ≡ us → us ≡ [] → ⊥
some_taken given [] us is same h none = let no : false ≡ true = rw same at is in cc
some_taken given (u ∷ found) us is same h none = let no : use_view u ∷ use_views found ≡ [] = h ∙ none in cc

pub none_taken : (given found : List NameUse) (us : List Use) → true ≡ (length given == 0) → given ≡ found → use_views found ≡ us → us ≡ []
none_taken given found us is same h =
    let empty : found ≡ [] = sym same ∙ nil_from_length given (true-eqb _ 0 is) in
    sym h ∙ ap use_views empty
