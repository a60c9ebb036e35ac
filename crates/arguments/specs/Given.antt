-- Which options are given, by words that are not matched with a command line yet. A word that begins
-- with `--` is an option by clap's rule, and never the value of another one. Source: clap, for words
-- as `--name` and `--name=value` (`long_of`); mos65.
use Rattle.std.specs.Prelude.{Bool, false, List, [], ◌∷◌, Option, Some, None, codes, ◌||◌, if◌then◌else◌, option_map}
use Rattle.std.specs.Str.{bytes_eq}
use Rattle.clap.specs.Lexer.{long_of}
use Rattle.clap.specs.Words.{Text}

-- The name in an option: `port` in `--port` and in `--port=F000`.
abbrev pub option_name : Text → Option Text
option_name word = option_map (λ long. long.0) (long_of word)

abbrev pub is_name : Text → Option Text → Bool
is_name name None = false
is_name name (Some given) = bytes_eq given name

-- An option of this name stands before `--`, after which no word is an option.
abbrev pub has_option : Text → List Text → Bool
has_option name [] = false
has_option name (word ∷ words) = if bytes_eq word (codes "--") then false
    else is_name name (option_name word) || has_option name words
