-- The command line of `test FILE .. [--source FILE ..] [--bin HHHH] [--prg] [--image] [--symbols
-- FILE] [--debug-info FILE] [--source-root FOLDER] [--junit FILE] [--coverage FILE] [--steps N]
-- [--seed N] [--only NAME] [--summary] [--quiet] [--csv]`, as clap's definitions describe one. How
-- words are matched with it is clap's to say.
-- Source: mos65.
use Rattle.std.specs.Prelude.{◌≡◌, List, Option, Some, codes}
use Rattle.arguments.specs.CommandLine.{files_rule, flag_rule, list_rule, option_rule, unnamed}
use Rattle.arguments.specs.Words.{Fits, value_in, values_in}
use Rattle.clap.specs.Words.{App, Text, with_rule}
use Rattle.image_files.specs.Options.{with_image}
use Rattle.word_test.specs.Asked.{TestAsked, test_asked}

-- The files.
abbrev pub test_files : App
test_files = with_rule (with_rule (unnamed (codes "test")) (files_rule (codes "FILE")))
    (list_rule 1 (codes "source"))

-- A command line with the files that tell of an image.
abbrev pub with_told : App → App
with_told app = with_rule (with_rule (with_rule app (option_rule (codes "symbols")))
    (option_rule (codes "debug-info"))) (option_rule (codes "source-root"))

-- A command line with files that are written, and the steps of a call.
abbrev pub with_files : App → App
with_files app = with_rule (with_rule (with_rule app (option_rule (codes "junit")))
    (option_rule (codes "coverage"))) (option_rule (codes "steps"))

-- A command line with which rows are run, and from which random numbers on.
abbrev pub with_rows : App → App
with_rows app = with_rule (with_rule app (option_rule (codes "seed"))) (option_rule (codes "only"))

-- A command line with what is written of tests.
abbrev pub with_telling : App → App
with_telling app = with_rule (with_rule (with_rule app
    (flag_rule (codes "summary"))) (flag_rule (codes "quiet"))) (flag_rule (codes "csv"))

abbrev pub test : App
test = with_telling (with_rows (with_files (with_told (with_image test_files))))

-- What words ask for, where the values that clap finds are right.
abbrev pub words_asked : List Text → Option TestAsked
words_asked words = test_asked (value_in test words) (values_in test words)

-- The words fit, they name a file, and a fact holds of what they ask for.
abbrev pub Asks : List Text → (TestAsked → Type 0) → Type 0
Asks words P = (asked : TestAsked) × Fits test words × (words_asked words ≡ Some asked) × P asked
