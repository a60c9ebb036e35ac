-- What a person says of an image: ranges by what their bytes are, where control comes in, what stands
-- behind calls, labels and comments. Source: mos65.
use Rattle.std.specs.Prelude.{ℕ, ◌+◌, ◌==◌, ◌&&◌, ◌||◌, nat_le, Bool, true, false, List, [], ◌∷◌, ◌++◌, codes, length, drop, take, ◌-◌, pos, Result, Ok, Err}
use Rattle.std.specs.List.{list_all}
use Rattle.std.specs.Str.{bytes_eq}
use Rattle.model.specs.Names.{Definitions}
use Rattle.model.specs.SourceLine.{Line, definition, labelled, read_line}
use Rattle.model.specs.Text.{hex_address}
use Rattle.model.specs.declared.instruction.Profile.{Profile}
use Rattle.model.specs.declared.source_fault.AsmFaultKind.{AsmFaultKind}
use Rattle.reached.specs.declared.inline.Inline.{Inline}
use Rattle.reached.specs.declared.inline.Tail.{Tail}
use Rattle.reached.specs.declared.inline.Tail.TheVariants.{String, Counted, HighBit, Bytes}
use Rattle.marks_files.specs.declared.marks.RangeKind.{RangeKind}
use Rattle.marks_files.specs.declared.marks.RangeKind.TheVariants.{Numbers, Letters, Addresses, Returns, Instructions}
use Rattle.marks_files.specs.declared.marks.Remark.{Remark}
use Rattle.marks_files.specs.declared.marks.Split.{Split}

-- The ranges of numbers, of letters, of addresses, of addresses less 1 to which RTS goes, and of
-- instructions; the tables in two halves; whether control is followed, and the addresses where it comes in; the routines whose
-- calls are followed by data; the names of labels, and the lines of a source that define them; the
-- comments, and their texts one after another.
pub record Marks : Type 0 where
  pub numbers : List (ℕ × ℕ)
  pub letters : List (ℕ × ℕ)
  pub addresses : List (ℕ × ℕ)
  pub returns : List (ℕ × ℕ)
  pub instructions : List (ℕ × ℕ)
  pub splits : List Split
  pub follows : Bool
  pub entries : List ℕ
  pub routines : List Inline
  pub names : Definitions
  pub definitions : List ℕ
  pub remarks : List Remark
  pub texts : List ℕ

-- ---- ranges

-- Two ranges have an address in common.
abbrev pub meets : ℕ × ℕ → ℕ × ℕ → Bool
meets one other = nat_le one.0 other.1 && nat_le other.0 one.1

abbrev pub meets_one : List (ℕ × ℕ) → ℕ × ℕ → Bool
meets_one [] range = false
meets_one (other ∷ ranges) range = meets other range || meets_one ranges range

-- A range has an address in common with one of another kind.
abbrev pub meets_other : RangeKind → Marks → ℕ × ℕ → Bool
meets_other Numbers m range = meets_one m.letters range || meets_one m.addresses range
    || meets_one m.returns range || meets_one m.instructions range
meets_other Letters m range = meets_one m.numbers range || meets_one m.addresses range
    || meets_one m.returns range || meets_one m.instructions range
meets_other Addresses m range = meets_one m.numbers range || meets_one m.letters range
    || meets_one m.returns range || meets_one m.instructions range
meets_other Returns m range = meets_one m.numbers range || meets_one m.letters range
    || meets_one m.addresses range || meets_one m.instructions range
meets_other Instructions m range = meets_one m.numbers range || meets_one m.letters range
    || meets_one m.addresses range || meets_one m.returns range

abbrev pub with_range : RangeKind → ℕ × ℕ → Marks → Marks
with_range Numbers range m = record m { numbers = m.numbers ++ range ∷ [] }
with_range Letters range m = record m { letters = m.letters ++ range ∷ [] }
with_range Addresses range m = record m { addresses = m.addresses ++ range ∷ [] }
with_range Returns range m = record m { returns = m.returns ++ range ∷ [] }
with_range Instructions range m = record m { instructions = m.instructions ++ range ∷ [] }

-- ---- tables in two halves

-- The addresses of a half of so many bytes.
abbrev pub half : ℕ → ℕ → ℕ × ℕ
half begin count = (begin, begin + (count - 1))

-- Both halves end by address 65535.
abbrev pub is_whole : Split → Bool
is_whole split = nat_le (split.low + split.count) 65536
    && nat_le (split.high + split.count) 65536

-- The halves are numbers.
abbrev pub meets_split : Marks → Split → Bool
meets_split m split = meets_other Numbers m (half split.low split.count)
    || meets_other Numbers m (half split.high split.count)

abbrev pub with_split : Split → Marks → Marks
with_split split m = record m {
  numbers = m.numbers ++ half split.low split.count ∷ [] ++ half split.high split.count ∷ [];
  splits = m.splits ++ split ∷ [];
}

-- ---- control

abbrev pub with_following : Marks → Marks
with_following m = record m { follows = true }

abbrev pub with_entry : ℕ → Marks → Marks
with_entry address m = record m { follows = true; entries = m.entries ++ address ∷ [] }

abbrev pub is_same_tail : Tail → Tail → Bool
is_same_tail String String = true
is_same_tail Counted Counted = true
is_same_tail HighBit HighBit = true
is_same_tail (Bytes n) (Bytes k) = n == k
is_same_tail tail other = false

abbrev pub with_routine : Inline → Marks → Marks
with_routine routine m = record m { routines = m.routines ++ routine ∷ [] }

-- ---- labels

-- The line of a source that gives an address a name.
abbrev pub label_line : List ℕ → ℕ → List ℕ
label_line name address = name ++ (codes " = $" ++ hex_address address)

-- A line is read as the definition of a name.
abbrev pub defines : List ℕ → Result Line AsmFaultKind → Bool
defines name (Ok (definition found value)) = bytes_eq found name
defines name (Ok (labelled label statement)) = false
defines name (Err fault) = false

-- A name can stand in a source.
unfoldable pub is_name : Profile → List ℕ → ℕ → Bool
is_name profile name address = defines name (read_line profile (label_line name address))

abbrev pub with_label : List ℕ → ℕ → Marks → Marks
with_label name address m = record m {
  names = m.names ++ (name, pos address) ∷ [];
  definitions = m.definitions ++ label_line name address ++ codes "\n";
}

-- ---- comments

-- A byte that a line of a source may have: $20 to $7E, or a tab.
abbrev pub is_text_byte : ℕ → Bool
is_text_byte b = (nat_le 32 b && nat_le b 126) || b == 9

-- The text of a comment has some such bytes, and at most 120.
abbrev pub is_text : List ℕ → Bool
is_text text = nat_le 1 (length text) && nat_le (length text) 120 && list_all is_text_byte text

abbrev pub remark_at : ℕ → Bool → ℕ → List ℕ → Remark
remark_at address is_block begin text = record {
  address = address;
  is_block = is_block;
  begin = begin;
  end = begin + length text;
}

abbrev pub with_remark : ℕ → Bool → List ℕ → Marks → Marks
with_remark address is_block text m = record m {
  remarks = m.remarks ++ remark_at address is_block (length m.texts) text ∷ [];
  texts = m.texts ++ text;
}

-- The text of a comment, among the texts of all.
abbrev pub text_of : List ℕ → Remark → List ℕ
text_of texts remark = take (remark.end - remark.begin) (drop remark.begin texts)
