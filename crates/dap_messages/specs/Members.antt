-- Which values the members of a launch can have. Source: mos65; members that are not named here are an
-- editor's own.
use Rattle.std.specs.Prelude.{ℕ, ◌&&◌, is_some, nat_le, not, Bool, false, if◌then◌else◌, List, [], ◌∷◌, codes, Option, Some, None}
use Rattle.dap_messages.specs.declared.members.Form.{Form}
use Rattle.dap_messages.specs.declared.members.Form.TheVariants as form
use Rattle.dap_messages.specs.declared.members.Member.{Member}
use Rattle.dap_messages.specs.declared.members.Member.TheVariants as member
use Rattle.json_messages.specs.Fields.{flag_at, number_at, text_at}
use Rattle.serde_json.specs.Data.{Data}
use Rattle.serde_json.specs.Find.{pointer}

-- ---- members

abbrev pub path_of : Member → List ℕ
path_of member.Program = codes "/arguments/program"
path_of member.Tape = codes "/arguments/tape"
path_of member.Bin = codes "/arguments/bin"
path_of member.Prg = codes "/arguments/prg"
path_of member.Port = codes "/arguments/port"
path_of member.Rom = codes "/arguments/rom"
path_of member.Profile = codes "/arguments/profile"
path_of member.Symbols = codes "/arguments/symbols"
path_of member.DebugInfo = codes "/arguments/debugInfo"
path_of member.SourceRoot = codes "/arguments/sourceRoot"
path_of member.History = codes "/arguments/history"
path_of member.Steps = codes "/arguments/steps"
path_of member.StopOnEntry = codes "/arguments/stopOnEntry"

-- No event, or up to 65,536 of them, can be undone; a run makes a step at least.
abbrev pub form_of : Member → Form
form_of member.Tape = form.Flag
form_of member.Prg = form.Flag
form_of member.StopOnEntry = form.Flag
form_of member.History = form.Number 0 1048576
form_of member.Steps = form.Number 1 4294967295
form_of member.Program = form.Text
form_of member.Bin = form.Text
form_of member.Port = form.Text
form_of member.Rom = form.Text
form_of member.Profile = form.Text
form_of member.Symbols = form.Text
form_of member.DebugInfo = form.Text
form_of member.SourceRoot = form.Text

-- All of them, in the order in which they are looked at.
unfoldable pub members : List Member
members = member.Program ∷ member.Tape ∷ member.Bin ∷ member.Prg ∷ member.Port ∷ member.Rom
    ∷ member.Profile ∷ member.Symbols ∷ member.DebugInfo ∷ member.SourceRoot ∷ member.History
    ∷ member.Steps ∷ member.StopOnEntry ∷ []

-- ---- values

abbrev pub is_within : ℕ → ℕ → Option ℕ → Bool
is_within least most None = false
is_within least most (Some n) = nat_le least n && nat_le n most

-- Whether a value of this form is at a path.
abbrev pub has_form : Form → List ℕ → Data → Bool
has_form form.Text path message = is_some (text_at path message)
has_form form.Flag path message = is_some (flag_at path message)
has_form (form.Number least most) path message = is_within least most (number_at path message)

-- Another value is there: no member has to be given.
abbrev pub is_wrong_at : Form → List ℕ → Data → Bool
is_wrong_at wanted path message
    = is_some (pointer path message) && not (has_form wanted path message)

abbrev pub is_wrong : Data → Member → Bool
is_wrong message member = is_wrong_at (form_of member) (path_of member) message

-- The first of some that has another value than one that it can have.
abbrev pub first_wrong : Data → List Member → Option Member
first_wrong message [] = None
first_wrong message (member ∷ rest) = if is_wrong message member then Some member
    else first_wrong message rest

abbrev pub wrong_member : Data → Option Member
wrong_member message = first_wrong message members
