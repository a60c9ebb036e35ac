-- The command line of `convert IN OUT [LO] [HI]` or `convert IN OTHER OUT`, with `[--from FORM] [--bin
-- HHHH] [--to FORM] [--fill HH] [--sum8 HHHH] [--prg] [--image] [--tape]`, as clap's definitions
-- describe one. How words are matched with it is clap's to say. Source: mos65.
use Rattle.std.specs.Prelude.{codes}
use Rattle.clap.specs.Words.{App, with_rule}
use Rattle.arguments.specs.CommandLine.{file_rule, flag_rule, option_rule, unnamed, word_rule}

abbrev pub convert : App
convert = with_rule (with_rule (with_rule (with_rule (with_rule (with_rule (with_rule (with_rule
    (with_rule (with_rule (with_rule (with_rule (unnamed (codes "convert")) (file_rule (codes "IN")))
    (file_rule (codes "OUT")))
    (word_rule (codes "LO"))) (word_rule (codes "HI"))) (option_rule (codes "from")))
    (option_rule (codes "bin"))) (option_rule (codes "to"))) (option_rule (codes "fill")))
    (option_rule (codes "sum8"))) (flag_rule (codes "prg"))) (flag_rule (codes "image")))
    (flag_rule (codes "tape"))
