-- The source with names, or that without.
use Rattle.std.proofs.Common.{◌≡◌, ℕ, List, Bool, Option, length, inl, inr, sym, ap, ◌∙◌, subst}
use Rattle.model.specs.Names.{Definitions}
use Rattle.model.specs.declared.instruction.Profile.{Profile}
use Rattle.source_forms.specs.declared.mark.Mark.{Mark}
use Rattle.source_forms.specs.Labels.{flagged_source, flags_of}
use Rattle.named_source.specs.NamedText.{IsFirstOf, IsSourceOf, named_source, plain_source}
use Rattle.named_source.specs.Names.{IsTable, flagged_by, with_named}
use Rattle.named_source.specs.Renaming.{renamed}
use Rattle.named_source.proofs.Flags.{flagged_names}

pub plain_is : (profile : Profile) (image : List (Option ℕ)) (marks : List Mark) (names : Definitions) (table : List ℕ) (before flags : List Bool)
    (plain : List ℕ) → IsTable names table → length before ≡ 65536
    → before ≡ flags_of profile image marks → flags ≡ flagged_by table before → plain ≡ flagged_source profile image marks flags
    → plain ≡ plain_source profile image marks names
unfolding plain_source
plain_is profile image marks names table before flags plain is long own set written =
    written ∙ ap (flagged_source profile image marks) (set ∙ (flagged_names names table before is long ∙ ap (with_named names 0) own))

pub named_is : (profile : Profile) (image : List (Option ℕ)) (marks : List Mark) (names : Definitions) (plain named : List ℕ)
    → plain ≡ plain_source profile image marks names → named ≡ renamed names image plain
    → named ≡ named_source profile image marks names
unfolding named_source
named_is profile image marks names plain named is written = written ∙ ap (renamed names image) is

pub first_is : (profile : Profile) (image : List (Option ℕ)) (first second text : List ℕ) → text ≡ first → IsSourceOf profile image text
    → IsFirstOf profile image first second text
first_is profile image first second text is right = inl (subst (IsSourceOf profile image) is right, is)

pub second_is : (profile : Profile) (image : List (Option ℕ)) (first second tried text : List ℕ) → tried ≡ first
    → (IsSourceOf profile image tried → ⊥) → text ≡ second → IsFirstOf profile image first second text
second_is profile image first second tried text is wrong same = inr (λ s. wrong (subst (IsSourceOf profile image) (sym is) s), same)
