-- What a file of names says as a source. Source: mos65.
use Rattle.std.specs.Prelude.{ℕ, ◌+◌, ◌-◌, ◌==◌, ◌&&◌, ◌||◌, nat_le, nat_lt, not, Bool, true, false, if◌then◌else◌, ℤ, pos, negsuc, List, [], ◌∷◌, ◌++◌, codes, decimal, length, Option, Some, None}
use Rattle.std.specs.List.{list_all}
use Rattle.std.specs.Option.{option_or}
use Rattle.std.specs.Ordering.{int_eq}
use Rattle.model.specs.Names.{Definitions, number_in}
use Rattle.model.specs.Text.{hex_address}
use Rattle.model.specs.TextLines.{lines_of}
use Rattle.model.specs.declared.instruction.Profile.{Profile}
use Rattle.names_files.specs.ImageNames.{is_image_name}
use Rattle.names_files.specs.Labels.{Label, begins, definition_text}
use Rattle.names_files.specs.Meanings.{Meaning, other, stands, named, kept, left_out, unknown, label_in, label_meaning, unlabelled}
use Rattle.names_files.specs.declared.form.Form.{Form}
use Rattle.names_files.specs.declared.form.Form.TheVariants as form

-- ---- some lines

-- What was made of some lines: a source of as many lines; the names that it gives; those that cannot
-- stand in it; how many lines were left out, and their names, as they are shown, with how many these
-- are; whether a line had a form that is known; and whether a line stands in a source alone.
pub record Taken : Type 0 where
  pub source : List ℕ
  pub names : Definitions
  pub others : Definitions
  pub left_out : ℕ
  pub shown : List ℕ
  pub told : ℕ
  pub is_known : Bool
  pub is_source : Bool

abbrev pub nothing_taken : Taken
nothing_taken = record {
  source = [];
  names = [];
  others = [];
  left_out = 0;
  shown = [];
  told = 0;
  is_known = false;
  is_source = false;
}

-- A line that defines nothing becomes an empty one.
abbrev pub with_empty : Taken → Taken
with_empty taken = record taken { source = taken.source ++ codes "\n" }

abbrev pub with_statement : Taken → Taken
with_statement taken = record (with_empty taken) { is_source = true }

abbrev pub with_unknown : Taken → Taken
with_unknown taken = record (with_empty taken) { left_out = taken.left_out + 1 }

-- A byte can be shown: it is no blank and no control character.
abbrev pub is_shown_byte : ℕ → Bool
is_shown_byte b = nat_lt 32 b && nat_lt b 127

-- A name is shown if it has a few such bytes, and not many were shown before it.
abbrev pub is_told : List ℕ → List ℕ → Bool
is_told shown name = nat_lt (length shown) 64 && nat_lt (length name) 64
    && list_all is_shown_byte name

abbrev pub comma : List ℕ → List ℕ
comma shown = if length shown == 0 then [] else codes ", "

abbrev pub with_told : List ℕ → Taken → Taken
with_told name taken = if is_told taken.shown name
    then record taken { shown = taken.shown ++ comma taken.shown ++ name; told = taken.told + 1 }
    else taken

abbrev pub with_left_out : List ℕ → Taken → Taken
with_left_out name taken
    = with_told name (record (with_unknown taken) { is_known = true })

abbrev pub with_name : List ℕ → List ℕ → ℤ → Taken → Taken
with_name text name number taken = record taken {
  source = taken.source ++ text ++ codes "\n";
  names = taken.names ++ (name, number) ∷ [];
  is_known = true;
}

-- A name that cannot stand in the source is left out of it, and stands beside it with its number.
abbrev pub with_other : List ℕ → ℤ → Taken → Taken
with_other name number taken = record (with_left_out name taken) {
  others = taken.others ++ (name, number) ∷ [];
}

-- The number that a name was given before.
abbrev pub given_before : Taken → List ℕ → Option ℤ
given_before taken name = option_or (number_in taken.names name) (number_in taken.others name)

-- It is not given again; it is left out if it had another number.
abbrev pub with_once : Option ℤ → List ℕ → ℤ → Taken → Taken
with_once None name number taken = with_other name number taken
with_once (Some old) name number taken
    = if int_eq old number then with_empty taken else with_left_out name taken

-- A name with an address behind it, as `loop:E150`.
abbrev pub addressed_name : List ℕ → ℕ → List ℕ
addressed_name name address = name ++ codes ":" ++ hex_address address

-- A name that was given before with another number is given as this text, if an image may have it.
unfoldable pub with_text : List ℕ → List ℕ → ℕ → Taken → Taken
with_text name text address taken = if is_image_name text
    then with_once (given_before taken text) text (pos address) taken
    else with_left_out name taken

-- The text has its address behind it.
abbrev pub with_addressed : List ℕ → ℕ → Taken → Taken
with_addressed name address taken = with_text name (addressed_name name address) address taken

abbrev pub with_again : List ℕ → ℤ → Taken → Taken
with_again name (pos n) taken = if nat_le n 65535 then with_addressed name n taken
    else with_left_out name taken
with_again name (negsuc n) taken = with_left_out name taken

abbrev pub with_given : Option ℤ → List ℕ → List ℕ → ℤ → Taken → Taken
with_given None text name number taken = with_name text name number taken
with_given (Some old) text name number taken
    = if int_eq old number then with_empty taken else with_again name number taken

abbrev pub with_kept : Option ℤ → List ℕ → ℤ → Taken → Taken
with_kept None name number taken = with_other name number taken
with_kept (Some old) name number taken
    = if int_eq old number then with_empty taken else with_again name number taken

abbrev pub with_meaning : List ℕ → Meaning → Taken → Taken
with_meaning text other taken = with_empty taken
with_meaning text stands taken = with_statement taken
with_meaning text unknown taken = with_unknown taken
with_meaning text (kept name number) taken
    = with_kept (given_before taken name) name number taken
with_meaning text (left_out name) taken = with_left_out name taken
with_meaning text (named name number) taken
    = with_given (number_in taken.names name) text name number taken

abbrev pub with_one : Form → Profile → Option Label → List ℕ → Taken → Taken
with_one form profile (Some label) line taken
    = with_meaning (definition_text label) (label_meaning profile taken.names label) taken
with_one form profile None line taken
    = with_meaning line (unlabelled form profile taken.names line) taken

-- A label becomes a definition, and each other line that gives a name stays as it is.
unfoldable pub one_line_more : Form → Profile → List ℕ → Taken → Taken
one_line_more form profile line taken = with_one form profile (label_in form line) line taken

unfoldable pub more_lines : Form → Profile → List (List ℕ) → Taken → Taken
more_lines form profile [] taken = taken
more_lines form profile (line ∷ lines) taken
    = more_lines form profile lines (one_line_more form profile line taken)

-- ---- a file

-- The form of a file, which its first bytes tell.
unfoldable pub form_of : List ℕ → Form
form_of file = if begins file (codes "version\tmajor=") then form.Debug
    else if begins file (codes "--- Symbol List") then form.Table else form.Plain

-- A source that gives the names of a file; the names that cannot stand in it; what is said of lines
-- that were left out, or nothing; how many lines gave no name, in the source or beside it; and whether
-- no line is a name in a form that is known.
pub record Names : Type 0 where
  pub source : List ℕ
  pub others : Definitions
  pub left_out : List ℕ
  pub lost : ℕ
  pub is_unknown : Bool

-- What is left out and not shown is two points.
abbrev pub points : Taken → List ℕ
points taken = if nat_lt taken.told taken.left_out then codes ", .." else []

abbrev pub shown_part : Taken → List ℕ
shown_part taken = if length taken.shown == 0 then []
    else codes ": " ++ taken.shown ++ points taken

-- How many lines were left out, and their names, as in `4: LDA, one, _main, ..`.
abbrev pub left_text : Taken → List ℕ
left_text taken = if taken.left_out == 0 then []
    else decimal taken.left_out ++ shown_part taken

-- Lines in no form are fewer than all that are left out if a line had one.
abbrev pub is_unknown : Form → Taken → Bool
is_unknown form.Plain taken = not taken.is_known && nat_lt 0 taken.left_out
is_unknown form.Debug taken = false
is_unknown form.Table taken = false

abbrev pub table_names : Form → Taken → Names
table_names form taken = record {
  source = taken.source;
  others = taken.others;
  left_out = left_text taken;
  lost = taken.left_out - length taken.others;
  is_unknown = is_unknown form taken;
}

-- A source gives its names as it stands.
abbrev pub source_names : List ℕ → Names
source_names file
    = record { source = file; others = []; left_out = []; lost = 0; is_unknown = false }

-- A file with a line that stands in a source alone is one, and so is one that is too large.
abbrev pub names_of : Form → List ℕ → Taken → Names
names_of form file taken = if taken.is_source || nat_lt 1048576 (length file)
    then source_names file else table_names form taken

-- What a file of names says.
unfoldable pub names_file : Profile → List ℕ → Names
names_file profile file = names_of (form_of file) file
    (more_lines (form_of file) profile (lines_of file) nothing_taken)
