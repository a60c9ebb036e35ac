-- What the words of `info`, `cmp` and `mend` ask for, by the values that clap's definition of a
-- parse finds among them. Source: mos65.
use Rattle.std.specs.Prelude.{ℕ, Bool, List, Option, Some, None, codes, if◌then◌else◌, option_map}
use Rattle.std.specs.Str.{bytes_eq}
use Rattle.clap.specs.Words.{Text}
use Rattle.model.specs.declared.instruction.Profile.{Profile}
use Rattle.arguments.specs.Asked.{is_flag}
use Rattle.arguments.specs.FileNames.{name_of}
use Rattle.arguments.specs.Values.{port_asked, profile_asked}
use Rattle.arguments.specs.Words.{value_in}
use Rattle.image_files.specs.Options.{form_said, forms_said}
use Rattle.image_reader.specs.declared.form.Form.{Form}
use Rattle.tape_words.specs.CommandLines.{cmp, info, mend}
use Rattle.tape_words.specs.declared.words.CmpWords.{CmpWords}
use Rattle.tape_words.specs.declared.words.InfoWords.{InfoWords}
use Rattle.tape_words.specs.declared.words.MendWords.{MendWords}

pub record InfoAsked : Type 0 where
  pub tape : Text
  pub form : Option Form
  pub port : ℕ
  pub profile : Profile

pub record CmpAsked : Type 0 where
  pub tape : Text
  pub other : Text
  pub form : Option Form
  pub other_form : Option Form
  pub align : Bool
  pub profile : Profile

pub record MendAsked : Type 0 where
  pub tape : Text
  pub out : Text

abbrev pub info_of : Option Text → Option (Option Form) → Option ℕ → Option Profile
    → Option InfoAsked
info_of (Some tape) (Some form) (Some port) (Some profile)
    = Some (record { tape = tape; form = form; port = port; profile = profile })
info_of tape form port profile = None

abbrev pub cmp_of : Option Text → Option Text → Option (Option Form × Option Form) → Bool
    → Option Profile → Option CmpAsked
cmp_of (Some tape) (Some other) (Some forms) align (Some profile) = Some (record {
  tape = tape;
  other = other;
  form = forms.0;
  other_form = forms.1;
  align = align;
  profile = profile;
})
cmp_of tape other forms align profile = None

-- The file to write has another name than the tape.
abbrev pub mend_of : Option Text → Option Text → Option MendAsked
mend_of (Some tape) (Some out)
    = if bytes_eq tape out then None else Some (record { tape = tape; out = out })
mend_of tape out = None

-- What the values of the names ask for, where each is one that its name can have.
abbrev pub info_by : (Text → Option Text) → Option InfoAsked
info_by value = info_of (option_map name_of (value (codes "TAPE")))
    (form_said (value (codes "TAPE")) value) (port_asked (value (codes "port")))
    (profile_asked (value (codes "profile")))

abbrev pub cmp_by : (Text → Option Text) → Option CmpAsked
cmp_by value = cmp_of (option_map name_of (value (codes "TAPE")))
    (option_map name_of (value (codes "OTHER")))
    (forms_said (value (codes "TAPE")) (value (codes "OTHER")) value)
    (is_flag (value (codes "align"))) (profile_asked (value (codes "profile")))

abbrev pub mend_by : (Text → Option Text) → Option MendAsked
mend_by value = mend_of (value (codes "TAPE")) (value (codes "OUT"))

-- What words ask for, where the values that clap finds are right.
abbrev pub info_asked : List Text → Option InfoAsked
info_asked words = info_by (value_in info words)

abbrev pub cmp_asked : List Text → Option CmpAsked
cmp_asked words = cmp_by (value_in cmp words)

abbrev pub mend_asked : List Text → Option MendAsked
mend_asked words = mend_by (value_in mend words)

-- ---- what was read, as what is asked for

abbrev pub info_view : InfoWords → InfoAsked
info_view w = record { tape = w.tape.now; form = w.form; port = w.port; profile = w.profile }

abbrev pub cmp_view : CmpWords → CmpAsked
cmp_view w = record {
  tape = w.tape.now;
  other = w.other.now;
  form = w.form;
  other_form = w.other_form;
  align = w.align;
  profile = w.profile;
}

abbrev pub mend_view : MendWords → MendAsked
mend_view w = record { tape = w.tape.now; out = w.out.now }
