-- The command line of `debug FILE [--image] [--bin HHHH] [--prg] [--history N] [--port HHHH] [--rom
-- LO-HI] [--profile N|C]`, as clap's definitions describe one. How words are matched with it is
-- clap's to say. Source: mos65.
use Rattle.std.specs.Prelude.{List, Option, codes}
use Rattle.arguments.specs.CommandLine.{file_rule, option_rule, unnamed}
use Rattle.arguments.specs.Words.{value_in}
use Rattle.clap.specs.Words.{App, Text, with_rule}
use Rattle.word_convert.specs.DebugAsked.{DebugImageAsked, debug_by}
use Rattle.image_files.specs.Options.{with_image}

-- the file and the history
abbrev pub debug_part : App
debug_part = with_rule (with_rule (unnamed (codes "debug")) (file_rule (codes "FILE")))
    (option_rule (codes "history"))

-- a command line with the options of the machine
abbrev pub with_map : App → App
with_map app = with_rule (with_rule (with_rule app (option_rule (codes "port")))
    (option_rule (codes "rom"))) (option_rule (codes "profile"))

abbrev pub debug : App
debug = with_image (with_map debug_part)

-- What words ask for, where the values that clap finds are right.
abbrev pub words_asked : List Text → Option DebugImageAsked
words_asked words = debug_by (value_in debug words)
