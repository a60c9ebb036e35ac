-- What the words of `dis` with an image ask for, by the values that clap's definition of a parse
-- finds among them. Source: mos65.
use Rattle.std.specs.Prelude.{ℕ, Option, Some, None, codes, if◌then◌else◌, nat_le, option_and_then, option_map}
use Rattle.arguments.specs.FileNames.{name_of}
use Rattle.arguments.specs.Values.{profile_asked}
use Rattle.clap.specs.Words.{Text}
use Rattle.word_convert.specs.declared.dis_rows.words.DisImageWords.{DisImageWords}
use Rattle.image_files.specs.Options.{form_said}
use Rattle.image_reader.specs.declared.form.Form.{Form}
use Rattle.model.specs.Commands.{address_of}
use Rattle.model.specs.declared.instruction.Profile.{Profile}

pub record DisImageAsked : Type 0 where
  pub file : Text
  pub form : Option Form
  pub first : ℕ
  pub last : ℕ
  pub profile : Profile

-- The first address is at most the last.
abbrev pub dis_of : Option Text → Option (Option Form) → Option ℕ → Option ℕ → Option Profile
    → Option DisImageAsked
dis_of (Some file) (Some form) (Some first) (Some last) (Some profile) =
    if nat_le first last then Some (record {
      file = file;
      form = form;
      first = first;
      last = last;
      profile = profile;
    }) else None
dis_of file form first last profile = None

-- What the values of the names ask for, where each is one that its name can have.
abbrev pub dis_by : (Text → Option Text) → Option DisImageAsked
dis_by value = dis_of (option_map name_of (value (codes "FILE")))
    (form_said (value (codes "FILE")) value)
    (option_and_then address_of (value (codes "LO")))
    (option_and_then address_of (value (codes "HI"))) (profile_asked (value (codes "profile")))

-- What was read, as what is asked for.
abbrev pub dis_view : DisImageWords → DisImageAsked
dis_view w = record {
  file = w.file.now;
  form = w.form;
  first = w.first;
  last = w.last;
  profile = w.profile;
}
