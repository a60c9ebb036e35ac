-- The command line of `dap [--seen FILE]`, as clap's definitions describe one. Source: mos65.
use Rattle.std.specs.Prelude.{codes, List, Option}
use Rattle.arguments.specs.CommandLine.{option_rule, unnamed}
use Rattle.arguments.specs.Words.{value_in}
use Rattle.clap.specs.Words.{App, Text, with_rule}

abbrev pub dap_app : App
dap_app = with_rule (unnamed (codes "dap")) (option_rule (codes "seen"))

-- The name of the file that what the client sends is copied to, if the words name one.
abbrev pub seen_in : List Text → Option Text
seen_in words = value_in dap_app words (codes "seen")
