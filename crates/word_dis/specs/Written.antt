-- The source that is written of what an image has between two addresses. Source: mos65.
use Rattle.std.specs.Prelude.{◌≡◌, ℕ, zero, suc, ◌+◌, ◌%◌, ◌<◌, ◌||◌, nat_lt, Bool, true, false, is_some, List, [], ◌∷◌, ◌++◌, map, length, Option, Some, None, if◌then◌else◌}
use Rattle.model.specs.Image.{cell_at}
use Rattle.model.specs.Names.{Definitions}
use Rattle.model.specs.Source.{Denotes}
use Rattle.model.specs.State.{Map, has_port_byte}
use Rattle.source_forms.specs.Rows.{mark_at}
use Rattle.source_forms.specs.declared.mark.Mark.{Mark}
use Rattle.source_forms.specs.Labels.{flagged_source, labelled_source}
use Rattle.named_source.specs.NamedText.{IsNamedText}
use Rattle.reached.specs.Reached.{AreFollowed, vectors, word_of}
use Rattle.remarked_source.specs.RemarkedText.{AreJoinedText, AreSplitText, IsRemarkedText}
use Rattle.remarked_source.specs.Rows.{Beside}
use Rattle.remarked_source.specs.Splits.{target_at}
use Rattle.marks_files.specs.declared.marks.Split.{Split}
use Rattle.word_dis.specs.Advice.{is_at_port}
use Rattle.word_dis.specs.Asked.{SourceAsked}
use Rattle.word_dis.specs.Fill.{AreKept, AreSameFilled, bytes_left_out}
use Rattle.word_dis.specs.Marks.{cell_between, has_labels, mark_of, said_mark}

-- ---- marks

-- The marks of the ranges, with the vectors as data where there are labels.
pub record AreMarked (asked : SourceAsked) (marks : List Mark) : Type 0 where
  pub size : length marks ≡ 65536
  pub each : (a : ℕ) → a < 65536 → mark_at marks a ≡ mark_of (has_labels asked) asked.said a

abbrev pub entries : List (Option ℕ) → Option (List ℕ) → List ℕ
entries part None = vectors part
entries part (Some starts) = starts

-- The word at an address, and so much more, where both its bytes are there.
abbrev pub word_at : List (Option ℕ) → ℕ → ℕ → List ℕ
word_at part more address = map (λ w. (w + more) % 65536)
    (word_of (cell_at part address) (cell_at part (address + 1)))

-- The words from an address to a last one, by at most so many steps.
unfoldable pub words_between : List (Option ℕ) → ℕ → ℕ → ℕ → ℕ → List ℕ
words_between part more zero address last = []
words_between part more (suc n) address last = if nat_lt address last
    then word_at part more address ++ words_between part more n (address + 2) last else []

-- The words of ranges, to which control goes: those of addresses as they are, those for RTS and 1.
abbrev pub targets : List (Option ℕ) → ℕ → List (ℕ × ℕ) → List ℕ
targets part more [] = []
targets part more (range ∷ ranges)
    = words_between part more 32768 range.0 range.1 ++ targets part more ranges

abbrev pub target_list : Option ℕ → List ℕ
target_list None = []
target_list (Some target) = target ∷ []

-- The addresses to which the first words of a table in two halves lead.
unfoldable pub half_targets : List (Option ℕ) → Split → ℕ → List ℕ
half_targets part split zero = []
half_targets part split (suc n) = half_targets part split n
    ++ target_list (target_at part split n)

-- Those of all such tables.
abbrev pub split_targets : List (Option ℕ) → List Split → List ℕ
split_targets part [] = []
split_targets part (split ∷ splits)
    = half_targets part split split.count ++ split_targets part splits

-- The first addresses of ranges.
abbrev pub firsts : List (ℕ × ℕ) → List ℕ
firsts ranges = map (λ range. range.0) ranges

-- Control comes in at the vectors, or at the addresses that are said in place of them; at more
-- addresses, where words are marked as addresses or stand in two halves, and where instructions are.
abbrev pub starts_of : List (Option ℕ) → SourceAsked → List ℕ
starts_of part asked = entries part asked.only ++ asked.said.entries
    ++ targets part 0 asked.said.addresses ++ targets part 1 asked.said.returns
    ++ split_targets part asked.said.splits ++ firsts asked.said.instructions

-- Control is followed where it is said where it comes in, or what stands behind calls.
abbrev pub is_followed : SourceAsked → Bool
is_followed asked = is_some asked.only || asked.said.follows
    || nat_lt 0 (length asked.said.routines)

-- Where control is followed, what was marked as code stays so where control comes.
abbrev pub AreFollowedBy : Bool → SourceAsked → List (Option ℕ) → List Mark → List Mark → Type 0
AreFollowedBy false asked part plain marks = marks ≡ plain
AreFollowedBy true asked part plain marks = AreFollowed asked.profile part plain
    asked.said.routines (starts_of part asked) marks

pub record AreReached (asked : SourceAsked) (part : List (Option ℕ)) (marks : List Mark) : Type 0 where
  pub plain : List Mark
  pub marked : AreMarked asked plain
  pub followed : AreFollowedBy (is_followed asked) asked part plain marks

-- Ranges of instructions are code then.
pub record AreMarkedBy (asked : SourceAsked) (part : List (Option ℕ)) (marks : List Mark) : Type 0 where
  pub reached : List Mark
  pub known : AreReached asked part reached
  pub size : length marks ≡ 65536
  pub each : (a : ℕ) → a < 65536
      → mark_at marks a ≡ said_mark asked.said.instructions reached a

-- ---- the text

-- The source of a part with its marks: with the names that are given, or with labels or without.
abbrev pub IsText : SourceAsked → List (Option ℕ) → List Mark → Option Definitions → List ℕ
    → Type 0
IsText asked part marks (Some names) text = IsNamedText asked.profile part marks names text
IsText asked part marks None text = text ≡ (if has_labels asked
    then labelled_source asked.profile part marks
    else flagged_source asked.profile part marks [])

-- What stands beside the lines.
abbrev pub beside_of : SourceAsked → Beside
beside_of asked = record {
  addresses = asked.addresses;
  remarks = asked.said.remarks;
  texts = asked.said.texts;
}

-- A text is the source of what an image has between the addresses that are asked for, without its
-- runs of the fill byte that is asked for, with the marks that are asked for, the names that are
-- given, and what is to stand beside the lines. Under each map of the profile it denotes exactly this, if none of it is at the map's port.
-- With the fill byte in its gaps it is the image between the addresses, filled in the same way.
pub record IsSourceOfPart (asked : SourceAsked) (image : List (Option ℕ))
    (names : Option Definitions) (text : List ℕ) : Type 0 where
  pub whole : List (Option ℕ)
  pub cells : (a : ℕ) → a < 65536
      → cell_at whole a ≡ cell_between image asked.first asked.last a
  pub part : List (Option ℕ)
  pub kept : AreKept whole asked.fill part
  pub filled : AreSameFilled asked.fill whole part
  pub marks : List Mark
  pub marked : AreMarkedBy asked part marks
  pub plain : List ℕ
  pub says : IsText asked part marks names plain
  pub halves : List ℕ
  pub split : AreSplitText asked.profile part asked.said.splits plain halves
  pub strings : List ℕ
  pub joined : AreJoinedText asked.profile part marks halves strings
  pub remarked : IsRemarkedText asked.profile part (beside_of asked) strings text
  pub denotes : (bus_map : Map) → bus_map.profile ≡ asked.profile
      → has_port_byte bus_map part ≡ false → Denotes bus_map text part

-- A text is the source that is asked for. It is known whether the part has bytes where the port is if
-- nothing is said, and how many bytes are left out as fill.
pub record IsWritten (asked : SourceAsked) (image : List (Option ℕ)) (names : Option Definitions)
    (text : List ℕ) (at_port : Bool) (left_out : ℕ) : Type 0 where
  pub source : IsSourceOfPart asked image names text
  pub same : at_port ≡ is_at_port source.part
  pub counted : left_out ≡ bytes_left_out source.whole source.part
