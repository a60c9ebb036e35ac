-- The command lines of `info TAPE [--port HHHH] [--profile N|C] [--bin HHHH] [--prg] [--image]`, of
-- `cmp TAPE OTHER [--align] [--profile N|C] [--bin HHHH] [--prg] [--image]` and of `mend TAPE OUT`, as
-- clap's definitions describe one. How words are matched with it is clap's to say. Source: mos65.
use Rattle.std.specs.Prelude.{codes}
use Rattle.clap.specs.Words.{App, with_rule}
use Rattle.arguments.specs.CommandLine.{file_rule, flag_rule, option_rule, unnamed}
use Rattle.image_files.specs.Options.{with_image}

abbrev pub info : App
info = with_image (with_rule (with_rule (with_rule (unnamed (codes "info"))
    (file_rule (codes "TAPE"))) (option_rule (codes "port"))) (option_rule (codes "profile")))

-- the files, and the flag
abbrev pub cmp_part : App
cmp_part = with_rule (with_rule (with_rule (unnamed (codes "cmp")) (file_rule (codes "TAPE")))
    (file_rule (codes "OTHER"))) (flag_rule (codes "align"))

abbrev pub cmp : App
cmp = with_image (with_rule cmp_part (option_rule (codes "profile")))

abbrev pub mend : App
mend = with_rule (with_rule (unnamed (codes "mend")) (file_rule (codes "TAPE")))
    (file_rule (codes "OUT"))
