-- The program's command line, `asm SOURCE TAPE [--listing FILE] [--port HHHH] [--profile
-- N|C]`, `dis TAPE LO HI [--profile N|C]` or `debug FILE [--tape] [--history N] [--port HHHH]
-- [--rom LO-HI] [--profile N|C]`, as clap's definitions describe one. How words are matched with it
-- is clap's to say.
use Rattle.std.specs.Prelude.{true, codes}
use Rattle.clap.specs.Words.{App, new_app, with_rule, with_subcommand}
use Rattle.arguments.specs.CommandLine.{file_rule, flag_rule, option_rule}

abbrev pub asm : App
asm = with_rule (with_rule (with_rule (with_rule (with_rule (new_app (codes "asm"))
    (file_rule (codes "SOURCE"))) (file_rule (codes "TAPE"))) (option_rule (codes "listing")))
    (option_rule (codes "port"))) (option_rule (codes "profile"))

abbrev pub dis : App
dis = with_rule (with_rule (with_rule (with_rule (new_app (codes "dis"))
    (file_rule (codes "TAPE"))) (file_rule (codes "LO"))) (file_rule (codes
    "HI"))) (option_rule (codes "profile"))

abbrev pub debug : App
debug = with_rule (with_rule (with_rule (with_rule (with_rule (with_rule (new_app (codes "debug"))
    (file_rule (codes "FILE"))) (flag_rule (codes "tape"))) (option_rule (codes "history")))
    (option_rule (codes "port"))) (option_rule (codes "rom"))) (option_rule (codes "profile"))

-- the top, whose words begin without the program's name
abbrev pub above : App
above = let new = new_app (codes "mos65") in record
    new { top = record new.top { no_binary_name = true; subcommand_required = true } }

abbrev pub mos65 : App
mos65 = with_subcommand (with_subcommand (with_subcommand above asm.top) dis.top) debug.top
