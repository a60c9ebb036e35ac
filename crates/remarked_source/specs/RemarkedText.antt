-- Which source is written with comments. Source: mos65.
use Rattle.std.specs.Prelude.{◌≡◌, ℕ, ◌||◌, nat_lt, Bool, true, false, List, length, Option, None}
use Rattle.assembler.specs.Assembly.{AssemblyView, IsAssembled, source_lines}
use Rattle.model.specs.State.{Map}
use Rattle.model.specs.declared.instruction.Profile.{Profile}
use Rattle.named_source.specs.NamedText.{IsFirstOf}
use Rattle.remarked_source.specs.Rows.{Beside, rows_from}
use Rattle.marks_files.specs.declared.marks.Split.{Split}
use Rattle.remarked_source.specs.Splits.{split_from}
use Rattle.remarked_source.specs.Strings.{joined_from}
use Rattle.source_forms.specs.Rows.{is_kind}
use Rattle.source_forms.specs.declared.mark.Mark.{Mark}
use Rattle.source_forms.specs.declared.mark.Mark.TheVariants.{Text}
use Rattle.std.specs.List.{list_any}

-- Something stands beside the lines.
abbrev pub is_beside : Beside → Bool
is_beside b = b.addresses || nat_lt 0 (length b.remarks)

-- A text is a source with what stands beside the lines of its assembly, if that is a source of the
-- image, and the source alone if it is not.
pub record IsRemarked (profile : Profile) (image : List (Option ℕ)) (b : Beside)
    (plain text : List ℕ) : Type 0 where
  pub bus_map : Map
  pub same : bus_map.profile ≡ profile
  pub assembly : AssemblyView
  pub assembled : IsAssembled bus_map assembly
  pub source : assembly.source ≡ plain
  pub chosen : IsFirstOf profile image (rows_from b image 0 (source_lines assembly)) plain text

abbrev pub IsRemarkedIf : Bool → Profile → List (Option ℕ) → Beside → List ℕ → List ℕ → Type 0
IsRemarkedIf false profile image b plain text = text ≡ plain
IsRemarkedIf true profile image b plain text = IsRemarked profile image b plain text

-- The same where nothing may stand beside the lines: the source is then as it was.
abbrev pub IsRemarkedText : Profile → List (Option ℕ) → Beside → List ℕ → List ℕ → Type 0
IsRemarkedText profile image b plain text
    = IsRemarkedIf (is_beside b) profile image b plain text

-- ---- strings

-- A text is a source with the numbers that end its strings on their lines, if that is a source of the
-- image, and the source as it was if it is not.
pub record AreJoined (profile : Profile) (image : List (Option ℕ)) (marks : List Mark)
    (plain text : List ℕ) : Type 0 where
  pub bus_map : Map
  pub same : bus_map.profile ≡ profile
  pub assembly : AssemblyView
  pub assembled : IsAssembled bus_map assembly
  pub source : assembly.source ≡ plain
  pub chosen : IsFirstOf profile image (joined_from marks None (source_lines assembly)) plain text

-- An address is marked as text.
abbrev pub has_text : List Mark → Bool
has_text marks = list_any (λ mark. is_kind Text mark) marks

abbrev pub AreJoinedIf : Bool → Profile → List (Option ℕ) → List Mark → List ℕ → List ℕ → Type 0
AreJoinedIf false profile image marks plain text = text ≡ plain
AreJoinedIf true profile image marks plain text = AreJoined profile image marks plain text

-- The same where nothing is marked as text: the source is then as it was.
abbrev pub AreJoinedText : Profile → List (Option ℕ) → List Mark → List ℕ → List ℕ → Type 0
AreJoinedText profile image marks plain text
    = AreJoinedIf (has_text marks) profile image marks plain text

-- ---- tables in two halves

-- A text is a source with labels in its tables in two halves, if that is a source of the image, and
-- the source as it was if it is not.
pub record AreSplit (profile : Profile) (image : List (Option ℕ)) (splits : List Split)
    (plain text : List ℕ) : Type 0 where
  pub bus_map : Map
  pub same : bus_map.profile ≡ profile
  pub assembly : AssemblyView
  pub assembled : IsAssembled bus_map assembly
  pub source : assembly.source ≡ plain
  pub chosen : IsFirstOf profile image
      (split_from image splits (source_lines assembly) None (source_lines assembly)) plain text

abbrev pub AreSplitIf : Bool → Profile → List (Option ℕ) → List Split → List ℕ → List ℕ → Type 0
AreSplitIf false profile image splits plain text = text ≡ plain
AreSplitIf true profile image splits plain text = AreSplit profile image splits plain text

-- The same where there is no such table: the source is then as it was.
abbrev pub AreSplitText : Profile → List (Option ℕ) → List Split → List ℕ → List ℕ → Type 0
AreSplitText profile image splits plain text
    = AreSplitIf (nat_lt 0 (length splits)) profile image splits plain text
