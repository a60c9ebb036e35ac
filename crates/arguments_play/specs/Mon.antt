-- The command line of `mon`, and what its words ask for, by the values that clap's definition of a
-- parse finds among them. Source: mos65.
use Rattle.std.specs.Prelude.{ℕ, Bool, List, Option, Some, None, codes, option_map}
use Rattle.arguments.specs.Asked.{FileAsked, file_asked, file_view, is_flag}
use Rattle.arguments.specs.CommandLine.{flag_rule, option_rule, unnamed, with_files}
use Rattle.arguments.specs.OtherFiles.{Others, others_by, others_view}
use Rattle.arguments.specs.Values.{history_asked}
use Rattle.arguments.specs.Words.{value_in}
use Rattle.arguments_play.specs.Debug.{debug_for}
use Rattle.arguments_play.specs.Size.{size_asked}
use Rattle.arguments_play.specs.declared.mon_words.MonWords.{MonWords}
use Rattle.clap.specs.Words.{App, Text, with_rule}

-- `FILE` with more files and its map, `[--history N] [--symbols FILE] [--debug-info FILE]
-- [--source-root FOLDER] [--prompt] [--screen] [--size COLUMNSxROWS]`.
abbrev pub mon : App
mon = with_rule (with_rule (with_rule (with_rule (with_rule (with_rule (with_rule
    (with_files (unnamed (codes "mon"))) (option_rule (codes "history")))
    (option_rule (codes "symbols"))) (option_rule (codes "debug-info")))
    (option_rule (codes "source-root"))) (flag_rule (codes "prompt")))
    (flag_rule (codes "screen"))) (option_rule (codes "size"))

pub record MonAsked : Type 0 where
  pub file : FileAsked
  pub others : Others
  pub history : ℕ
  pub symbols : Option Text
  pub debug_info : Option Text
  pub source_root : Option Text
  pub prompts : Bool
  pub has_screen : Bool
  pub size : Option (ℕ × ℕ)

abbrev pub mon_of : Option FileAsked → Others → Option ℕ → Option Text → Option (Option Text)
    → Option Text → Bool → Bool → Option (Option (ℕ × ℕ)) → Option MonAsked
mon_of (Some file) others (Some history) symbols (Some debug) root prompts has_screen (Some size) = Some (record {
  file = file;
  others = others;
  history = history;
  symbols = symbols;
  debug_info = debug;
  source_root = root;
  prompts = prompts;
  has_screen = has_screen;
  size = size;
})
mon_of file others history symbols debug root prompts has_screen size = None

-- What the values of the names ask for, where each is one that its name can have.
abbrev pub mon_asked : (Text → Option Text) → Option MonAsked
mon_asked value = mon_of (file_asked value) (others_by value)
    (history_asked (value (codes "history"))) (value (codes "symbols"))
    (debug_for (file_asked value) (value (codes "debug-info"))) (value (codes "source-root"))
    (is_flag (value (codes "prompt"))) (is_flag (value (codes "screen")))
    (size_asked (value (codes "size")))

-- What the words ask for, where the values that clap finds are right.
abbrev pub words_in : List Text → Option MonAsked
words_in words = mon_asked (value_in mon words)

-- What was read from the words, as what they ask for.
abbrev pub mon_view : MonWords → MonAsked
mon_view w = record {
  file = file_view w.file;
  others = others_view w.others;
  history = w.history;
  symbols = option_map (λ s. s.now) w.symbols;
  debug_info = option_map (λ s. s.now) w.debug_info;
  source_root = option_map (λ s. s.now) w.source_root;
  prompts = w.prompts;
  has_screen = w.has_screen;
  size = w.size;
}
