-- The command line of `lsp [--port HHHH] [--profile N|C]`, as clap's definitions describe one, and
-- what its words ask for. How words are matched with it is clap's to say. Source: mos65.
use Rattle.std.specs.Prelude.{ℕ, ◌≡◌, false, Option, Some, None, List, codes}
use Rattle.arguments.specs.CommandLine.{option_rule, unnamed}
use Rattle.arguments.specs.Values.{port_asked, profile_asked}
use Rattle.arguments.specs.Words.{Fits, value_in}
use Rattle.clap.specs.Words.{App, Text, with_rule}
use Rattle.word_lsp.specs.declared.words.LspWords.{LspWords}
use Rattle.model.specs.State.{is_map}
use Rattle.model.specs.declared.instruction.Profile.{Profile}

abbrev pub lsp_app : App
lsp_app = with_rule (with_rule (unnamed (codes "lsp")) (option_rule (codes "port")))
    (option_rule (codes "profile"))

pub record LspAsked : Type 0 where
  pub port : ℕ
  pub profile : Profile

abbrev pub lsp_of : Option ℕ → Option Profile → Option LspAsked
lsp_of (Some port) (Some profile) = Some (record { port = port; profile = profile })
lsp_of port profile = None

-- What the first values of the names ask for, where each is one that its name can have.
abbrev pub lsp_by : (Text → Option Text) → Option LspAsked
lsp_by value = lsp_of (port_asked (value (codes "port"))) (profile_asked (value (codes "profile")))

-- What words ask for, where the values that clap finds are right.
abbrev pub lsp_asked : List Text → Option LspAsked
lsp_asked words = lsp_by (value_in lsp_app words)

-- What was read, as what is asked for.
abbrev pub lsp_view : LspWords → LspAsked
lsp_view w = record { port = w.port; profile = w.profile }

-- The port makes no map.
abbrev pub HasNoMap : LspAsked → Type 0
HasNoMap asked = is_map None asked.port ≡ false

-- The words fit, each value is one that its name can have, and a fact holds of what they ask for.
abbrev pub Asks : List Text → (LspAsked → Type 0) → Type 0
Asks words P = (asked : LspAsked) × Fits lsp_app words × (lsp_asked words ≡ Some asked) × P asked
