-- What is asked for by what was found among the words.
use Rattle.std.proofs.Common.{◌≡◌, ◌∙◌, List, ap, ap₂}
use Rattle.arguments.specs.Words.{all_values, value_in, values_in}
use Rattle.arguments.proofs.Parsed.{all_found}
use Rattle.clap.specs.Words.{App, Text, first_value, found_of, matches_of, rows_of}
use Rattle.clap.specs.declared.parser.matches.ArgMatches.{ArgMatches}
use Rattle.word_check.specs.CommandLine.{check, check_asked, check_by}

pub asked_found : (app : App) (words : List Text) (m : ArgMatches) → app ≡ check → first_value (found_of m) ≡ value_in app words
    → rows_of (found_of m) ≡ matches_of app words
    → check_by (first_value (found_of m)) (all_values (found_of m)) ≡ check_asked words
asked_found app words m is values rows =
    ap₂ check_by values (all_found app words m rows) ∙ ap (λ (a : App). check_by (value_in a words) (values_in a words)) is
