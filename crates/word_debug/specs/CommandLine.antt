-- The command line of `debug` with `--strict`, as clap's definitions describe one. Source: mos65.
use Rattle.std.specs.Prelude.{codes}
use Rattle.arguments.specs.CommandLine.{flag_rule}
use Rattle.program.specs.CommandLine.{debug}
use Rattle.clap.specs.Words.{App, with_rule}

abbrev pub strict : App
strict = with_rule debug (flag_rule (codes "strict"))
