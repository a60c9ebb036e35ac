-- Names of labels, and of a source behind them.
use Rattle.std.proofs.Common.{◌≡◌, ◌⊎◌, ◌∙◌, ℕ, ◌+◌, ◌-◌, List, [], ◌∷◌, length, Option, Some, None, Result, Ok, Err, refl, sym, subst, arith}
use Rattle.std.specs.Prelude.{option_map}
use Rattle.arguments.specs.declared.refusal.Refusal.{Refusal}
use Rattle.arguments.specs.declared.refusal.Refusal.TheVariants.{Words, Map, Source, Tape, Session, OutOfMemory, Read, Write, WriteFile}
use Rattle.model.specs.Names.{Definitions}
use Rattle.model.specs.Source.{HasFault}
use Rattle.model.specs.declared.instruction.Profile.{Profile}
use Rattle.model.specs.declared.source_fault.AsmFault.{AsmFault}
use Rattle.word_dis.specs.Word.{AreLabels, AreNames, EndsDefined, EndsNames, IsNamesFault, names_map}

-- a fault by its line behind those of labels
pub behind : (profile : Profile) (source : List ℕ) (fault told : AsmFault) (count : ℕ) → HasFault (names_map profile) source fault
    → told ≡ record fault { line = fault.line - count } → IsNamesFault profile told
behind profile source fault told count has is =
    let before : ℕ = fault.line - (fault.line - count) in
    let same : fault.line - count + before ≡ fault.line = omega arith in
    subst (IsNamesFault profile) (sym is) (source, before, subst (λ (n : ℕ). HasFault (names_map profile) source (record fault { line = n })) (sym same) has)

-- why a source of names is refused, by the same line
pub defined_ends : (profile : Profile) (source : List ℕ) (refusal : Refusal) → EndsNames profile source refusal → EndsDefined profile refusal
defined_ends profile source (Source fault) ends =
    let same : fault.line + 0 ≡ fault.line = omega arith in
    (source, 0, subst (λ (n : ℕ). HasFault (names_map profile) source (record fault { line = n })) (sym same) ends)
defined_ends profile source OutOfMemory ends = tt
defined_ends profile source Words ends = absurd ends
defined_ends profile source (Map f) ends = absurd ends
defined_ends profile source (Tape f) ends = absurd ends
defined_ends profile source (Session f) ends = absurd ends
defined_ends profile source (Read why) ends = absurd ends
defined_ends profile source Write ends = absurd ends
defined_ends profile source (WriteFile f) ends = absurd ends

-- no labels, and some
pub none : (profile : Profile) (labels : List ℕ) → length labels ≡ 0 → AreLabels profile labels None
none profile [] empty = refl
none profile (b ∷ labels) empty = absurd (omega arith)

pub some : (profile : Profile) (labels : List ℕ) (names : Definitions) → (length labels ≡ 0 → ⊥) → AreNames profile labels names
    → AreLabels profile labels (Some names)
some profile [] names full are = absurd (full refl)
some profile (b ∷ labels) names full are = are
