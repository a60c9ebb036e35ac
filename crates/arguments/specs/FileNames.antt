-- What the name of a file tells of its form: an address behind `@`, or an ending. Our own rule.
-- Source: mos65.
use Rattle.std.specs.Prelude.{ℕ, Bool, nat_eq, nat_lt, ◌-◌, ◌==◌, if◌then◌else◌, length, take, drop, get_or, Option, Some, None, codes, is_some, unwrap_or, ◌||◌}
use Rattle.std.specs.List.{ends_with}
use Rattle.arguments.specs.declared.file_names.FormName.{FormName}
use Rattle.arguments.specs.declared.file_names.FormName.TheVariants as named
use Rattle.arguments.specs.declared.file_options.FileForm.{FileForm}
use Rattle.arguments.specs.declared.file_options.FileForm.TheVariants.{Source, Records, Raw, Prg}
use Rattle.clap.specs.Words.{Text}
use Rattle.model.specs.Commands.{address_of}

-- ---- FILE@HHHH: the raw bytes of FILE from an address on

-- The address, where a word has one behind its last `@`, and a name before that.
abbrev pub address_at : Text → Option ℕ
address_at word =
    if nat_lt (length word) 6 then None
    else if get_or word (length word - 5) 0 == 64 then address_of (drop (length word - 4) word)
    else None

abbrev pub name_by : Text → Option ℕ → Text
name_by word None = word
name_by word (Some address) = take (length word - 5) word

-- The name of the file that a word names.
abbrev pub name_of : Text → Text
name_of word =
    if nat_lt (length word) 6 then word
    else if get_or word (length word - 5) 0 == 64
    then name_by word (address_of (drop (length word - 4) word))
    else word

-- ---- endings

abbrev pub has_ending : Text → Text → Bool
has_ending ending name = ends_with nat_eq name ending

-- The form of the ending of a file's name.
abbrev pub form_of_ending : Text → Option FormName
form_of_ending name =
    if has_ending (codes ".bin") name then Some named.Bin
    else if has_ending (codes ".rom") name then Some named.Bin
    else if has_ending (codes ".hex") name then Some named.Hex
    else if has_ending (codes ".ihx") name then Some named.Hex
    else if has_ending (codes ".ihex") name then Some named.Hex
    else if has_ending (codes ".srec") name then Some named.SRecord
    else if has_ending (codes ".mot") name then Some named.SRecord
    else if has_ending (codes ".s19") name then Some named.SRecord
    else if has_ending (codes ".s28") name then Some named.SRecord
    else if has_ending (codes ".s37") name then Some named.SRecord
    else if has_ending (codes ".prg") name then Some named.Prg
    else if has_ending (codes ".tape") name then Some named.Tape
    else if has_ending (codes ".pt") name then Some named.Tape
    else if has_ending (codes ".ptp") name then Some named.Tape
    else None

-- How a file with an ending is read. An ending of raw bytes does not tell where they stand.
abbrev pub form_by_ending : Option FormName → Option FileForm
form_by_ending None = None
form_by_ending (Some named.Bin) = None
form_by_ending (Some named.Hex) = Some Records
form_by_ending (Some named.SRecord) = Some Records
form_by_ending (Some named.Tape) = Some Records
form_by_ending (Some named.Prg) = Some Prg

-- ---- the form of a file by its word, beside what options say

abbrev pub own_by : Option ℕ → Option FormName → Option FileForm
own_by (Some address) ending = Some (Raw address)
own_by None ending = form_by_ending ending

-- The form that a word tells.
abbrev pub own_form : Text → Option FileForm
own_form word = own_by (address_at word) (form_of_ending word)

abbrev pub prg_with : FileForm → Option FileForm
prg_with Source = None
prg_with Records = None
prg_with (Raw address) = None
prg_with Prg = Some Prg

-- Options say a form of a file whose word tells none, or that it is an image; or the same form.
abbrev pub form_with : Option FileForm → FileForm → Option FileForm
form_with None said = Some said
form_with (Some own) Source = Some own
form_with (Some own) Records = Some own
form_with (Some own) (Raw address) = None
form_with (Some own) Prg = prg_with own

-- The form of the one file that a word names.
abbrev pub form_for : Text → FileForm → Option FileForm
form_for word said = form_with (own_form word) said

-- The form of one of several files: its own, or the one that options say.
abbrev pub form_beside : Text → FileForm → FileForm
form_beside word said = unwrap_or (own_form word) said

-- One of two files at least takes what options say.
abbrev pub takes_either : Text → Text → FileForm → Bool
takes_either word other said = is_some (form_for word said) || is_some (form_for other said)

-- A word that names an image: with an address behind it, or an ending of one.
abbrev pub names_image : Text → Bool
names_image word = is_some (address_at word) || is_some (form_of_ending word)
