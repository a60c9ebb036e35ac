-- What clap's definition of a parse finds among the words of `test`.
use Rattle.std.proofs.Common.{◌≡◌, ◌∙◌, List, ap, ap₂}
use Rattle.arguments.specs.Words.{all_values, value_in, values_in}
use Rattle.clap.specs.Words.{App, Text, first_value, found_of, matches_of, rows_of}
use Rattle.clap.specs.declared.parser.matches.ArgMatches.{ArgMatches}
use Rattle.arguments.proofs.Parsed.{all_found}
use Rattle.word_test.specs.Asked.{test_asked}
use Rattle.word_test.specs.CommandLine.{test, words_asked}

pub asked_found : (app : App) (words : List Text) (m : ArgMatches) → app ≡ test → first_value (found_of m) ≡ value_in app words
    → rows_of (found_of m) ≡ matches_of app words → test_asked (first_value (found_of m)) (all_values (found_of m)) ≡ words_asked words
asked_found app words m is values rows =
    ap₂ test_asked values (all_found app words m rows) ∙ ap (λ (a : App). test_asked (value_in a words) (values_in a words)) is
