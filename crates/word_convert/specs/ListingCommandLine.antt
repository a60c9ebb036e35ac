-- The command line of `dis FILE LO HI [--image] [--bin HHHH] [--prg] [--profile N|C]`, as clap's
-- definitions describe one. How words are matched with it is clap's to say. Source: mos65.
use Rattle.std.specs.Prelude.{List, Option, codes}
use Rattle.arguments.specs.CommandLine.{file_rule, option_rule, unnamed}
use Rattle.arguments.specs.Words.{value_in}
use Rattle.clap.specs.Words.{App, Text, with_rule}
use Rattle.word_convert.specs.ListingAsked.{DisImageAsked, dis_by}
use Rattle.image_files.specs.Options.{with_image}

-- the file, and the part of it
abbrev pub dis_part : App
dis_part = with_rule (with_rule (with_rule (unnamed (codes "dis"))
    (file_rule (codes "FILE"))) (file_rule (codes "LO"))) (file_rule (codes "HI"))

abbrev pub dis : App
dis = with_image (with_rule dis_part (option_rule (codes "profile")))

-- What words ask for, where the values that clap finds are right.
abbrev pub words_asked : List Text → Option DisImageAsked
words_asked words = dis_by (value_in dis words)
