-- The command line of `page FILE OUT` with the map of FILE and `[--symbols FILE] [--debug-info FILE]
-- [--source-root FOLDER] [--input FILE] [--until WHERE] [--steps N] [--title TEXT] [--at N]
-- [--screen HHHH] [--notes FILE] [--free]`, as clap's definitions describe one. Source: mos65.
use Rattle.std.specs.Prelude.{codes}
use Rattle.arguments.specs.CommandLine.{file_rule, flag_rule, option_rule, unnamed, with_file}
use Rattle.clap.specs.Words.{App, with_rule}

abbrev pub page : App
page = with_rule (with_rule (with_rule (with_rule (with_rule (with_rule (with_rule (with_rule
    (with_rule (with_rule (with_rule (with_rule
    (with_file (unnamed (codes "page"))) (file_rule (codes "OUT")))
    (option_rule (codes "symbols"))) (option_rule (codes "debug-info")))
    (option_rule (codes "source-root"))) (option_rule (codes "input")))
    (option_rule (codes "until"))) (option_rule (codes "steps")))
    (option_rule (codes "title"))) (option_rule (codes "at")))
    (option_rule (codes "screen"))) (option_rule (codes "notes")))
    (flag_rule (codes "free"))
