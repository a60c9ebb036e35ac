-- The command line of `check SOURCE .. [--strict] [--port HHHH] [--profile N|C]`, as clap's
-- definitions describe one, and what its words ask for. How words are matched with it is clap's to
-- say. Source: mos65.
use Rattle.std.specs.Prelude.{ℕ, Bool, Option, Some, None, List, [], ◌∷◌, codes}
use Rattle.arguments.specs.Asked.{is_flag}
use Rattle.arguments.specs.CommandLine.{files_rule, flag_rule, option_rule, unnamed}
use Rattle.arguments.specs.Values.{port_asked, profile_asked}
use Rattle.arguments.specs.Words.{texts, value_in, values_in}
use Rattle.word_check.specs.declared.words.CheckWords.{CheckWords}
use Rattle.clap.specs.Words.{App, Text, with_rule}
use Rattle.model.specs.State.{Map}
use Rattle.model.specs.declared.instruction.Profile.{Profile}

abbrev pub check : App
check = with_rule (with_rule (with_rule (with_rule (unnamed (codes "check"))
    (files_rule (codes "SOURCE"))) (flag_rule (codes "strict"))) (option_rule (codes "port")))
    (option_rule (codes "profile"))

-- The files to check, one at least, and how.
pub record CheckAsked : Type 0 where
  pub sources : List Text
  pub port : ℕ
  pub profile : Profile
  pub strict : Bool

abbrev pub check_of : List Text → Option ℕ → Option Profile → Bool → Option CheckAsked
check_of (source ∷ more) (Some port) (Some profile) strict = Some (record {
  sources = source ∷ more;
  port = port;
  profile = profile;
  strict = strict;
})
check_of sources port profile strict = None

abbrev pub check_if : Option (List Text) → Option ℕ → Option Profile → Bool → Option CheckAsked
check_if None port profile strict = None
check_if (Some sources) port profile strict = check_of sources port profile strict

-- What the first values and all values of the names ask for, where each is one that its name can
-- have.
abbrev pub check_by : (Text → Option Text) → (Text → Option (List Text)) → Option CheckAsked
check_by value values = check_if (values (codes "SOURCE")) (port_asked (value (codes "port")))
    (profile_asked (value (codes "profile"))) (is_flag (value (codes "strict")))

-- What words ask for, where the values that clap finds are right.
abbrev pub check_asked : List Text → Option CheckAsked
check_asked words = check_by (value_in check words) (values_in check words)

-- What was read, as what is asked for.
abbrev pub check_view : CheckWords → CheckAsked
check_view w = record {
  sources = texts w.sources.items;
  port = w.port;
  profile = w.profile;
  strict = w.strict;
}

-- The map that is asked for.
abbrev pub map_asked : CheckAsked → Map
map_asked asked = record { profile = asked.profile; rom = None; port = asked.port }
