-- A source of a part is one of what an image has between two addresses, with marks and names.
use Rattle.std.proofs.Common.{◌≡◌, ℕ, ◌<◌, List, ◌++◌, Bool, Option, Some, None, [], Result, Ok, Err, true, false, refl, subst, sym, ◌∙◌, length, ap₂}
use Rattle.std.specs.Prelude.{IfOk, option_map}
use Rattle.assembler.specs.Assembly.{AssemblyView, IsAssembled}
use Rattle.model.specs.Image.{cell_at}
use Rattle.model.specs.Names.{Definitions}
use Rattle.model.specs.Source.{Denotes}
use Rattle.model.specs.State.{Map, has_port_byte}
use Rattle.model.specs.declared.instruction.Profile.{Profile}
use Rattle.source_forms.specs.declared.mark.Mark.{Mark}
use Rattle.word_dis.specs.Advice.{is_at_port}
use Rattle.word_dis.specs.Asked.{SourceAsked}
use Rattle.word_dis.specs.Fill.{AreKept, bytes_left_out}
use Rattle.source_forms.specs.Rows.{mark_at}
use Rattle.word_dis.specs.Marks.{cell_between, said_mark}
use Rattle.word_dis.proofs.Runs.{same_filled}
use Rattle.names_files.specs.NamesFile.{names_file}
use Rattle.clap.specs.Words.{Text}
use Rattle.word_dis.specs.Word.{AreFileNames, AreGiven, AreLabels, AreNames, names_map}
use Rattle.word_dis.specs.declared.names.Names.{Names}
use Rattle.reached.specs.Reached.{AreFollowed}
use Rattle.remarked_source.specs.RemarkedText.{AreJoinedText, AreSplitText, IsRemarkedText}
use Rattle.word_dis.specs.Written.{AreFollowedBy, AreMarked, AreMarkedBy, AreReached, IsText, IsWritten, beside_of, is_followed, starts_of}

-- the source of a part with its marks and names, and where it may be
pub source_is : (asked : SourceAsked) (image : List (Option ℕ)) (names : Option Definitions) (whole part : List (Option ℕ)) (marks : List Mark)
    (plain halves strings text : List ℕ) (at_port : Bool) (left_out : ℕ) → ((a : ℕ) → a < 65536 → cell_at whole a ≡ cell_between image asked.first asked.last a)
    → AreKept whole asked.fill part → left_out ≡ bytes_left_out whole part → AreMarkedBy asked part marks → IsText asked part marks names plain
    → AreSplitText asked.profile part asked.said.splits plain halves → AreJoinedText asked.profile part marks halves strings
    → IsRemarkedText asked.profile part (beside_of asked) strings text
    → ((bus_map : Map) → bus_map.profile ≡ asked.profile → has_port_byte bus_map part ≡ false → Denotes bus_map text part) → at_port ≡ is_at_port part
    → IsWritten asked image names text at_port left_out
source_is asked image names whole part marks plain halves strings text at_port left_out cells kept counted marked says split joined remarked means
    same = record {
      source = record {
        whole = whole;
        cells = cells;
        part = part;
        kept = kept;
        filled = same_filled asked.fill whole part kept;
        marks = marks;
        marked = marked;
        plain = plain;
        says = says;
        halves = halves;
        split = split;
        strings = strings;
        joined = joined;
        remarked = remarked;
        denotes = means;
      };
      same = same;
      counted = counted;
    }

-- marks where control is not followed, and where it is
pub unfollowed : (asked : SourceAsked) (part : List (Option ℕ)) (marks : List Mark) → AreMarked asked marks → is_followed asked ≡ false
    → AreReached asked part marks
unfollowed asked part marks marked none = record {
  plain = marks;
  marked = marked;
  followed =
      subst (λ (t : Bool). AreFollowedBy t asked part marks marks) (sym none) refl;
}

pub followed : {X E : Type 0} (items : X → List Mark) (asked : SourceAsked) (part : List (Option ℕ)) (plain : List Mark) (r : Result X E)
    → AreMarked asked plain → is_followed asked ≡ true
    → IfOk r (λ x. AreFollowed asked.profile part plain asked.said.routines (starts_of part asked) (items x)) → IfOk r (λ x. AreReached asked part (items x))
followed items asked part plain (Ok x) marked some f = record
    { plain = plain; marked = marked; followed = subst (λ (t : Bool). AreFollowedBy t asked part plain (items x)) (sym some) f }
followed items asked part plain (Err e) marked some f = tt

-- the names of an assembly on the map of names
pub are_named : (profile : Profile) (bus_map : Map) (source : List ℕ) (a : AssemblyView) → bus_map ≡ names_map profile → IsAssembled bus_map a
    → a.source ≡ source → AreNames profile source a.names
are_named profile bus_map source a is assembled kept =
    let A : Map → Type 0 = λ m. IsAssembled m a in
    (a, subst A is assembled, refl, kept)

-- the names of a file, and what is said of its lines that are left out
pub of_file : {X E : Type 0} (held : X → Option AssemblyView) (left_out : X → List ℕ) (profile : Profile) (labels file source : List ℕ)
    (count : List ℕ) (r : Result X E) → source ≡ (names_file profile file).source → count ≡ (names_file profile file).left_out
    → IfOk r (λ x. (a : AssemblyView) × (held x ≡ Some a) × AreNames profile (labels ++ source) a.names) → IfOk r (λ x. left_out x ≡ count)
    → IfOk r (λ x. (a : AssemblyView) × (held x ≡ Some a) × AreFileNames profile labels a.names (left_out x))
of_file held left_out profile labels file source count (Ok x) same counted named out =
    (named.0, named.1, (file, out ∙ counted, subst (λ (s : List ℕ). AreNames profile (labels ++ s) named.0.names) same named.2))
of_file held left_out profile labels file source count (Err e) same counted named out = tt

pub given_path : (asked : Option Text) (path : Text) (profile : Profile) (labels : List ℕ) (n : Names) → asked ≡ Some path
    → ((a : AssemblyView) × (n.assembly ≡ Some a) × AreFileNames profile labels a.names n.left_out.items)
    → AreGiven asked profile labels (option_map (λ a. a.names) n.assembly) n.left_out.items
given_path asked path profile labels n is given =
    let A : Option AssemblyView → Type 0 = λ h. AreGiven (Some path) profile labels (option_map (λ a. a.names) h) n.left_out.items in
    subst (λ (o : Option Text). AreGiven o profile labels (option_map (λ a. a.names) n.assembly) n.left_out.items) (sym is) (subst A (sym given.1) given.2)

-- marks with ranges of instructions as code
pub known : {X E : Type 0} (items : X → List Mark) (asked : SourceAsked) (part : List (Option ℕ)) (reached : List Mark) (ranges : List (ℕ × ℕ))
    (before : List Mark) (r : Result X E) → ranges ≡ asked.said.instructions → before ≡ reached
    → AreReached asked part reached → IfOk r (λ x. length (items x) ≡ 65536)
    → IfOk r (λ x. (a : ℕ) → a < 65536 → mark_at (items x) a ≡ said_mark ranges before a) → IfOk r (λ x. AreMarkedBy asked part (items x))
known items asked part reached ranges before (Ok x) same own has size each =
    record {
      reached = reached;
      known = has;
      size = size;
      each =
          λ a below. each a below ∙ ap₂ (λ (rs : List (ℕ × ℕ)) (ms : List Mark). said_mark rs ms a) same own;
    }
known items asked part reached ranges before (Err e) same own has size each = tt

-- the names of labels alone
pub given_labels : (asked : Option Text) (profile : Profile) (labels : List ℕ) (n : Names) → asked ≡ None
    → AreLabels profile labels (option_map (λ a. a.names) n.assembly) → n.left_out.items ≡ []
    → AreGiven asked profile labels (option_map (λ a. a.names) n.assembly) n.left_out.items
given_labels asked profile labels n is given none = subst (λ (o : Option Text).
    AreGiven o profile labels (option_map (λ a. a.names) n.assembly) n.left_out.items) (sym is) (given, none)
