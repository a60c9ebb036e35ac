-- Which of the values that were found is wrong, where it is one of an option that several words have.
-- Source: mos65.
use Rattle.std.specs.Prelude.{◌≡◌, ⊤, ℕ, Bool, false, List, Option, Some, None, codes, is_none, if◌then◌else◌}
use Rattle.arguments.specs.Asked.{form_by, form_in}
use Rattle.arguments.specs.Values.{history_asked, port_asked, profile_asked, rom_asked, steps_asked}
use Rattle.arguments.specs.declared.fault.WordsFault.{WordsFault}
use Rattle.arguments.specs.declared.file_options.FileForm.{FileForm}
use Rattle.arguments.specs.declared.fault.WordsFault.TheVariants.{Value, Wrong}
use Rattle.arguments.specs.declared.wording.TheConstants.{FORM_TAKES, MON_HISTORY_TAKES, NAME_TELLS, PORT_TAKES, PROFILE_TAKES, ROM_TAKES, STEPS_TAKES}
use Rattle.clap.specs.Words.{Text}

-- A file's word tells another form than options say.
abbrev pub is_told : Option Text → Option FileForm → Bool
is_told None said = false
is_told (Some word) said = is_none (form_in (Some word) said)

-- What is wrong of the form that options say of the file of either name.
unfoldable pub wrong_form : Option Text → Option Text → Option FileForm → Option (List ℕ)
wrong_form file tape said =
    if is_none said then Some FORM_TAKES.now
    else if is_told file said then Some NAME_TELLS.now
    else if is_told tape said then Some NAME_TELLS.now
    else None

-- What the option takes whose value is wrong, the first of them.
abbrev pub wrong_value : (Text → Option Text) → Option (List ℕ)
wrong_value value =
    if is_none (port_asked (value (codes "port"))) then Some PORT_TAKES.now
    else if is_none (rom_asked (value (codes "rom"))) then Some ROM_TAKES.now
    else if is_none (profile_asked (value (codes "profile"))) then Some PROFILE_TAKES.now
    else if is_none (history_asked (value (codes "history"))) then Some MON_HISTORY_TAKES.now
    else if is_none (steps_asked (value (codes "steps"))) then Some STEPS_TAKES.now
    else wrong_form (value (codes "FILE")) (value (codes "TAPE")) (form_by value)

-- The fault says this of a value, or nothing.
abbrev pub IsOfValue : Option (List ℕ) → WordsFault → Type 0
IsOfValue (Some said) (Wrong which) = which.now ≡ said
IsOfValue None Value = ⊤
IsOfValue said fault = ⊥
