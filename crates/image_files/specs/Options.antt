-- The form that words say of an image, by the values that clap's definition of a parse finds among
-- them. Source: mos65.
use Rattle.std.specs.Prelude.{ℕ, Option, Some, None, codes, if◌then◌else◌, option_map}
use Rattle.arguments.specs.Asked.{form_by, form_in}
use Rattle.arguments.specs.CommandLine.{flag_rule, option_rule}
use Rattle.arguments.specs.FileNames.{form_beside, takes_either}
use Rattle.arguments.specs.declared.file_options.FileForm.{FileForm}
use Rattle.arguments.specs.declared.file_options.FileForm.TheVariants as file_form
use Rattle.clap.specs.Words.{App, Text, with_rule}
use Rattle.image_reader.specs.declared.form.Form.{Form}
use Rattle.image_reader.specs.declared.form.Form.TheVariants.{Raw, Prg}
use Rattle.model.specs.Commands.{byte_of}

-- `[--bin HHHH] [--prg] [--image] [--tape]`, after what a command line has.
abbrev pub with_image : App → App
with_image app = with_rule (with_rule (with_rule (with_rule app (option_rule (codes "bin")))
    (flag_rule (codes "prg"))) (flag_rule (codes "image"))) (flag_rule (codes "tape"))

-- The form that is said of an image; none where its first record tells it.
abbrev pub said_of : FileForm → Option Form
said_of file_form.Source = None
said_of file_form.Records = None
said_of (file_form.Raw address) = Some (Raw address)
said_of file_form.Prg = Some Prg

-- The form of the image of a word, by the values of the other words.
abbrev pub form_said : Option Text → (Text → Option Text) → Option (Option Form)
form_said word value = option_map said_of (form_in word (form_by value))

-- The forms of the images of two words, each its own or the one that options say. One of them at least
-- takes what these say.
abbrev pub forms_with : Text → Text → Option FileForm → Option (Option Form × Option Form)
forms_with one other None = None
forms_with one other (Some said) = if takes_either one other said
    then Some (said_of (form_beside one said), said_of (form_beside other said)) else None

abbrev pub forms_said : Option Text → Option Text → (Text → Option Text)
    → Option (Option Form × Option Form)
forms_said None other value = None
forms_said (Some one) None value = None
forms_said (Some one) (Some other) value = forms_with one other (form_by value)

-- The byte that gaps are filled with, if one is said.
abbrev pub fill_asked : Option Text → Option (Option ℕ)
fill_asked None = Some None
fill_asked (Some word) = option_map Some (byte_of word)
