-- What the words of `convert` ask for, by the values that clap's definition of a parse finds among
-- them. Source: mos65.
use Rattle.std.specs.Prelude.{ℕ, nat_le, Bool, true, false, List, Option, Some, None, codes, option_map, if◌then◌else◌}
use Rattle.std.specs.Str.{bytes_eq}
use Rattle.arguments.specs.Asked.{is_flag}
use Rattle.arguments.specs.FileNames.{address_at, form_of_ending, name_of}
use Rattle.arguments.specs.Values.{both}
use Rattle.arguments.specs.Words.{value_in}
use Rattle.arguments.specs.declared.file_names.FormName.{FormName}
use Rattle.arguments.specs.declared.file_names.FormName.TheVariants.{Bin, Hex, SRecord, Tape, Prg}
use Rattle.clap.specs.Words.{Text}
use Rattle.image_reader.specs.declared.form.Form.{Form}
use Rattle.image_reader.specs.declared.form.Form.TheVariants as form
use Rattle.image_reader.specs.declared.form.TextForm.TheVariants as text_form
use Rattle.image_files.specs.Options.{fill_asked, form_said, forms_said}
use Rattle.word_convert.specs.CommandLine.{convert}
use Rattle.word_convert.specs.declared.words.ConvertWords.{ConvertWords}
use Rattle.word_convert.specs.declared.words.OtherFile.{OtherFile}
use Rattle.model.specs.Commands.{address_of}

-- ---- forms

-- The form of a name.
abbrev pub form_named : Text → Option FormName
form_named word =
    if bytes_eq word (codes "bin") then Some Bin
    else if bytes_eq word (codes "hex") then Some Hex
    else if bytes_eq word (codes "srec") then Some SRecord
    else if bytes_eq word (codes "tape") then Some Tape
    else if bytes_eq word (codes "prg") then Some Prg
    else None

-- The form to write: that of `--to`, or that of the ending of OUT.
abbrev pub to_asked : Option Text → Text → Option FormName
to_asked None out = form_of_ending out
to_asked (Some word) out = form_named word

abbrev pub raw_at : Option ℕ → Option (Option Form)
raw_at None = None
raw_at (Some address) = Some (Some (form.Raw address))

-- A form that is said of IN. Raw bytes need their address.
abbrev pub from_name : Option FormName → Option (Option Form)
from_name None = None
from_name (Some Bin) = None
from_name (Some Hex) = Some (Some (form.Text text_form.Hex))
from_name (Some SRecord) = Some (Some (form.Text text_form.SRecord))
from_name (Some Tape) = Some (Some form.Tape)
from_name (Some Prg) = Some (Some form.Prg)

-- The form of IN that `--from` names, and `--bin` beside it.
abbrev pub from_named : Text → Option Text → Bool → Option (Option Form)
from_named name address true = None
from_named name None false = from_name (form_named name)
from_named name (Some address) false = if bytes_eq name (codes "bin")
    then raw_at (address_of address) else None

-- Where IN has its address behind its name, its form is not named too.
abbrev pub from_beside : Option ℕ → Text → Option Text → Bool → Option (Option Form)
from_beside None name address is_prg = from_named name address is_prg
from_beside (Some at) name address is_prg = None

-- The form of IN: the one that `--from` names, or that of its word and of the other options.
abbrev pub from_asked : Text → Option Text → (Text → Option Text) → Option (Option Form)
from_asked input None value = form_said (Some input) value
from_asked input (Some name) value = from_beside (address_at input) name (value (codes "bin"))
    (is_flag (value (codes "prg")))

-- ---- the part that is written

abbrev pub in_order : Option (ℕ × ℕ) → Option (Option (ℕ × ℕ))
in_order None = None
in_order (Some range) = if nat_le range.0 range.1 then Some (Some range) else None

-- Two addresses or none, the first not above the last.
abbrev pub range_asked : Option Text → Option Text → Option (Option (ℕ × ℕ))
range_asked None None = Some None
range_asked None (Some high) = None
range_asked (Some low) None = None
range_asked (Some low) (Some high) = in_order (both (address_of low) (address_of high))

-- An address that a word writes.
abbrev pub if_address : Option ℕ → Option (Option ℕ)
if_address None = None
if_address (Some address) = Some (Some address)

-- The address of the byte that makes the sum 0, if one is said.
abbrev pub sum_asked : Option Text → Option (Option ℕ)
sum_asked None = Some None
sum_asked (Some word) = if_address (address_of word)

-- Another file to read, whose bytes are written too.
pub record OtherAsked : Type 0 where
  pub file : Text
  pub form : Option Form

pub record ConvertAsked : Type 0 where
  pub input : Text
  pub other : Option OtherAsked
  pub out : Text
  pub from : Option Form
  pub to : FormName
  pub range : Option (ℕ × ℕ)
  pub fill : Option ℕ
  pub sum : Option ℕ

-- The other file has this name.
abbrev pub is_other : Option OtherAsked → Text → Bool
is_other None name = false
is_other (Some other) name = bytes_eq other.file name

abbrev pub asked_of : Text → Option OtherAsked → Text → Option (Option Form) → Option FormName
    → Option (Option (ℕ × ℕ)) → Option (Option ℕ) → Option (Option ℕ) → Option ConvertAsked
asked_of input other out (Some from) (Some to) (Some range) (Some fill) (Some sum) =
    if bytes_eq input out then None
    else if is_other other out then None
    else Some (record {
      input = input;
      other = other;
      out = out;
      from = from;
      to = to;
      range = range;
      fill = fill;
      sum = sum;
    })
asked_of input other out from to range fill sum = None

-- ---- IN OUT [LO HI]

abbrev pub one_file : Text → Text → (Text → Option Text) → Option ConvertAsked
one_file input out value = asked_of (name_of input) None out
    (from_asked input (value (codes "from")) value)
    (to_asked (value (codes "to")) out)
    (range_asked (value (codes "LO")) (value (codes "HI")))
    (fill_asked (value (codes "fill"))) (sum_asked (value (codes "sum8")))

-- ---- IN OTHER OUT

-- The forms of two files to read, each by its word and by options other than `--from`.
abbrev pub both_asked : Text → Text → Option Text → (Text → Option Text)
    → Option (Option Form × Option Form)
both_asked input other None value = forms_said (Some input) (Some other) value
both_asked input other (Some name) value = None

abbrev pub two_of : Text → Text → Text → Option (Option Form × Option Form) → Option FormName
    → Option (Option ℕ) → Option (Option ℕ) → Option ConvertAsked
two_of input other out None to fill sum = None
two_of input other out (Some forms) to fill sum = asked_of (name_of input)
    (Some (record { file = name_of other; form = forms.1 })) out (Some forms.0) to (Some None) fill
    sum

abbrev pub two_files : Text → Text → Text → (Text → Option Text) → Option ConvertAsked
two_files input other out value = two_of input other out
    (both_asked input other (value (codes "from")) value)
    (to_asked (value (codes "to")) out) (fill_asked (value (codes "fill")))
    (sum_asked (value (codes "sum8")))

-- ---- all words

-- The third of three words is OUT, unless it is an address.
abbrev pub out_by : Text → Option ℕ → Option Text
out_by word None = Some word
out_by word (Some address) = None

abbrev pub third_word : Option Text → Option Text → Option Text
third_word None high = None
third_word (Some word) None = out_by word (address_of word)
third_word (Some word) (Some high) = None

abbrev pub convert_with : Text → Text → Option Text → (Text → Option Text) → Option ConvertAsked
convert_with input second None value = one_file input second value
convert_with input second (Some out) value = two_files input second out value

-- The files have names of their own, and what is asked for is right.
abbrev pub convert_of : Option Text → Option Text → (Text → Option Text) → Option ConvertAsked
convert_of None second value = None
convert_of (Some input) None value = None
convert_of (Some input) (Some second) value = convert_with input second
    (third_word (value (codes "LO")) (value (codes "HI"))) value

abbrev pub convert_by : (Text → Option Text) → Option ConvertAsked
convert_by value = convert_of (value (codes "IN")) (value (codes "OUT")) value

-- What words ask for, where the values that clap finds are right.
abbrev pub convert_asked : List Text → Option ConvertAsked
convert_asked words = convert_by (value_in convert words)

abbrev pub other_view : OtherFile → OtherAsked
other_view w = record { file = w.file.now; form = w.form }

-- What was read from the words, as what they ask for.
abbrev pub convert_view : ConvertWords → ConvertAsked
convert_view w = record {
  input = w.input.now;
  other = option_map other_view w.other;
  out = w.out.now;
  from = w.from;
  to = w.to;
  range = w.range;
  fill = w.fill;
  sum = w.sum;
}
