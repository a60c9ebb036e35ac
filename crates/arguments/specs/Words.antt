-- What the words of a command line ask for, by clap's definition of a parse, and why they are
-- rejected. Source: mos65.
use Rattle.std.specs.Borrow.{Bor}
use Rattle.std.specs.Prelude.{◌≡◌, ◌≢◌, ◌≤◌, ◌⊎◌, ℕ, List, [], ◌∷◌, Option, map, option_map}
use Rattle.clap.specs.Matches.{matched_of, raw_values}
use Rattle.clap.specs.Words.{App, IsAmong, Text, all_of, fault_of, first_of, kind_of, matches_of}
use Rattle.clap.specs.declared.error.Error.{Error}
use Rattle.clap.specs.declared.error.kind.ErrorKind.{ErrorKind}
use Rattle.clap.specs.declared.error.kind.ErrorKind.TheVariants as kind
use Rattle.clap.specs.declared.parser.matches.Found.{Found}
use Rattle.arguments.specs.declared.fault.WordsFault.{WordsFault}
use Rattle.arguments.specs.declared.fault.WordsFault.TheVariants.{Help, OutOfMemory, Usage, Value, Wrong}

-- The texts of words that a word of the program is called with.
abbrev pub texts : List (Bor Text) → List Text
texts words = map (λ s. s.now) words

-- The words fit the command line.
abbrev pub Fits : App → List Text → Type 0
Fits app words = fault_of app words ≡ []

-- They ask for help.
abbrev pub AsksForHelp : App → List Text → Type 0
AsksForHelp app words = IsAmong kind.DisplayHelp (fault_of app words)

-- They do not fit it, and it is not help that they ask for.
abbrev pub Misfits : App → List Text → Type 0
Misfits app words = (k : ErrorKind) × (k ≢ kind.DisplayHelp) × IsAmong k (fault_of app words)

-- The first value of a name among the words.
abbrev pub value_in : App → List Text → Text → Option Text
value_in app words name = first_of name (matches_of app words)

-- All values of a name, where clap finds the name.
abbrev pub all_values : Found → Text → Option (List Text)
all_values found name = option_map raw_values (matched_of found name)

-- All values of a name among the words.
abbrev pub values_in : App → List Text → Text → Option (List Text)
values_in app words name = all_of name (matches_of app words)

-- What an error of clap is returned as.
abbrev pub AnswersWords : Error → WordsFault → Type 0
AnswersWords e OutOfMemory = kind_of e ≡ kind.OutOfMemory
AnswersWords e (Help text) = (text ≡ e) × (kind_of e ≡ kind.DisplayHelp)
AnswersWords e (Usage text) = (text ≡ e) × (kind_of e ≢ kind.OutOfMemory)
    × (kind_of e ≢ kind.DisplayHelp)
AnswersWords e Value = ⊥
AnswersWords e (Wrong which) = ⊥

-- Why words are refused: they ask for help, or do not fit; or they fit, and a value is wrong, so
-- that nothing is asked for. Memory may run out at any words.
abbrev pub IsRefusalOf : App → List Text → Type 0 → WordsFault → Type 0
IsRefusalOf app words IsWrong (Help text) = (kind_of text ≡ kind.DisplayHelp)
    × AsksForHelp app words
IsRefusalOf app words IsWrong (Usage text)
    = (kind_of text ≢ kind.DisplayHelp) × IsAmong (kind_of text) (fault_of app words)
IsRefusalOf app words IsWrong Value = Fits app words × IsWrong
IsRefusalOf app words IsWrong (Wrong which) = Fits app words × IsWrong
IsRefusalOf app words IsWrong OutOfMemory = Unit {0}

-- Why words do not fit. Nothing is said yet of values.
abbrev pub IsMisfit : App → List Text → WordsFault → Type 0
IsMisfit app words fault = IsRefusalOf app words ⊥ fault

-- The exit status of words that are refused: 0 for help that was written and 4 for help that could
-- not be, 2 for wrong words, 3 for memory.
abbrev pub IsStatusOf : WordsFault → ℕ → Type 0
IsStatusOf (Help text) status = (status ≡ 0) ⊎ (status ≡ 4)
IsStatusOf (Usage text) status = status ≡ 2
IsStatusOf Value status = status ≡ 2
IsStatusOf (Wrong which) status = status ≡ 2
IsStatusOf OutOfMemory status = status ≡ 3

-- What the exit status says of words that are refused.
pub record SaysOfWords (app : App) (words : List Text) (IsWrong : Type 0) (status : ℕ)
    : Type 0 where
  pub help : (status ≡ 0) ⊎ (status ≡ 4) → AsksForHelp app words
  pub never : status ≢ 1
  pub wrong : status ≡ 2 → Misfits app words ⊎ (Fits app words × IsWrong)

-- What the exit status and the streams say of words that ask for nothing, since they do not fit or
-- since a value is wrong, `IsWrong`. The input is left alone, `Unread`, and so is the output but for
-- help, `Unwritten`.
pub record Refuses (app : App) (words : List Text) (IsWrong : Type 0) (status : ℕ)
    (Unread Unwritten : Type 0) : Type 0 where
  pub untaken : ¬ Fits app words → Unread × (1 ≤ status → status ≤ 3 → Unwritten)
  pub unasked : IsWrong → Unread × (1 ≤ status → status ≤ 3 → Unwritten)
  -- Words that fit nothing have the status 2, unless they ask for help or memory runs out; help
  -- that is asked for has 0 if it was written.
  pub usage : ¬ Fits app words → ¬ AsksForHelp app words → (status ≡ 2) ⊎ (status ≡ 3)
  pub help : fault_of app words ≡ kind.DisplayHelp ∷ []
      → (status ≡ 0) ⊎ (status ≡ 3) ⊎ (status ≡ 4)
  -- A wrong value has the status 2, unless memory runs out.
  pub value : Fits app words → IsWrong → (status ≡ 2) ⊎ (status ≡ 3)
