-- The command line of `dis TAPE [LO HI] --source [--labels] [--data LO-HI ..] [--text LO-HI ..]
-- [--words LO-HI ..] [--rts-words LO-HI ..] [--follow [ADDRESS ..]] [--follow-only ADDRESS ..]
-- [--inline ADDRESS=z|n|h|N ..] [--marks FILE] [--addresses] [--symbols FILE] [--fill HH]
-- [--profile N|C] [--bin HHHH] [--prg] [--image] [--tape]`, as clap's definitions describe one. How
-- words are matched with it is clap's to say. Source: mos65.
use Rattle.std.specs.Prelude.{◌≡◌, List, Option, Some, codes}
use Rattle.arguments.specs.CommandLine.{file_rule, flag_rule, list_rule, option_rule, unnamed, word_rule}
use Rattle.arguments.specs.Words.{Fits, value_in, values_in}
use Rattle.clap.specs.Words.{App, Text, with_rule}
use Rattle.word_dis.specs.Asked.{SourceAsked, source_asked}
use Rattle.image_files.specs.Options.{with_image}

-- the tape, the part of it, and the flags
abbrev pub dis_part : App
dis_part = with_rule (with_rule (with_rule (with_rule (with_rule (unnamed (codes "dis"))
    (file_rule (codes "TAPE"))) (word_rule (codes "LO"))) (word_rule (codes "HI")))
    (flag_rule (codes "source"))) (flag_rule (codes "labels"))

-- a command line with the ranges of what is no code
abbrev pub with_ranges : App → App
with_ranges app = with_rule (with_rule (with_rule (with_rule app (list_rule 1 (codes "data")))
    (list_rule 1 (codes "text"))) (list_rule 1 (codes "words"))) (list_rule 1 (codes "rts-words"))

-- a command line with where control comes in
abbrev pub with_following : App → App
with_following app = with_rule (with_rule (with_rule app (list_rule 0 (codes "follow")))
    (list_rule 1 (codes "follow-only"))) (list_rule 1 (codes "inline"))

-- a command line with what else is said of the image, and what stands beside the lines
abbrev pub with_marks : App → App
with_marks app = with_rule (with_rule app (option_rule (codes "marks")))
    (flag_rule (codes "addresses"))

abbrev pub dis : App
dis = with_image (with_rule (with_rule (with_rule (with_marks (with_following
    (with_ranges dis_part))) (option_rule (codes "symbols"))) (option_rule (codes "fill")))
    (option_rule (codes "profile")))

-- What words ask for, where the values that clap finds are right.
abbrev pub words_asked : List Text → Option SourceAsked
words_asked words = source_asked (value_in dis words) (values_in dis words)

-- The words fit, each value is one that its name can have, and a fact holds of what they ask for.
abbrev pub Asks : List Text → (SourceAsked → Type 0) → Type 0
Asks words P = (asked : SourceAsked) × Fits dis words × (words_asked words ≡ Some asked) × P asked
