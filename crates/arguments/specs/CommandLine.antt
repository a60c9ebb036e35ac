-- Parts of command lines, as clap's definitions describe one. How words are matched with a command
-- line is clap's to say. Source: mos65.
use Rattle.std.specs.Prelude.{true, ℕ, Some, codes}
use Rattle.clap.specs.Lexer.{usize_max}
use Rattle.clap.specs.Words.{App, Rule, Text, new_app, new_rule, with_rule}
use Rattle.clap.specs.declared.builder.action.ArgAction.TheVariants.{Append, Set, SetTrue}
use Rattle.clap.specs.declared.builder.range.ValueRange.{ValueRange}

-- A word that has to be there.
abbrev pub file_rule : Text → Rule
file_rule name = record (new_rule name) { required = true; action = Some Set }

-- An option with no value, as `--tape`.
abbrev pub flag_rule : Text → Rule
flag_rule name = record (new_rule name) { long = Some name; action = Some SetTrue }

-- An option with one value, as `--port HHHH` or `--port=HHHH`.
abbrev pub option_rule : Text → Rule
option_rule name = record (new_rule name) { long = Some name; action = Some Set; value_names = 1 }

abbrev pub at_least : ℕ → ValueRange
at_least least = record { start_inclusive = least; end_inclusive = usize_max }

-- A word that has to be there, and more of its kind.
abbrev pub files_rule : Text → Rule
files_rule name = record (new_rule name) {
  required = true;
  action = Some Append;
  range = Some (at_least 1);
}

-- An option with several values, which can be said more than once.
abbrev pub list_rule : ℕ → Text → Rule
list_rule least name = record (new_rule name) {
  long = Some name;
  action = Some Append;
  range = Some (at_least least);
  value_names = 1;
}

-- A command line whose words begin without the program's name.
abbrev pub unnamed : Text → App
unnamed name = let new = new_app name in record
    new { top = record new.top { no_binary_name = true } }

-- `FILE [--tape] [--port HHHH] [--rom LO-HI] [--profile N|C] [--bin HHHH] [--prg] [--image]`, after
-- what a command line has.
abbrev pub with_file : App → App
with_file app = with_rule (with_rule (with_rule (with_rule (with_rule (with_rule (with_rule
    (with_rule app (file_rule (codes "FILE"))) (flag_rule (codes "tape"))) (option_rule (codes "port")))
    (option_rule (codes "rom"))) (option_rule (codes "profile"))) (option_rule (codes "bin")))
    (flag_rule (codes "prg"))) (flag_rule (codes "image"))

-- A word that may be there.
abbrev pub word_rule : Text → Rule
word_rule name = record (new_rule name) { action = Some Set }

-- The same with `[SECOND] [THIRD] [FOURTH]` behind it: more files of one machine.
abbrev pub with_files : App → App
with_files app = with_rule (with_rule (with_rule (with_file app) (word_rule (codes "SECOND")))
    (word_rule (codes "THIRD"))) (word_rule (codes "FOURTH"))
