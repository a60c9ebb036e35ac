-- The command line of `run`, and what its words ask for, by the values that clap's definition of a
-- parse finds among them. Source: mos65.
use Rattle.std.specs.Prelude.{ℕ, Bool, true, false, List, Option, Some, None, codes, if◌then◌else◌, option_map}
use Rattle.std.specs.Str.{bytes_eq}
use Rattle.arguments.specs.Asked.{FileAsked, file_asked, file_view, is_flag}
use Rattle.arguments.specs.CommandLine.{flag_rule, option_rule, unnamed, with_files}
use Rattle.arguments.specs.OtherFiles.{Others, others_by, others_view}
use Rattle.arguments.specs.Values.{steps_asked}
use Rattle.arguments.specs.Words.{value_in}
use Rattle.arguments_play.specs.Debug.{debug_for}
use Rattle.arguments_play.specs.declared.run.RunWords.{RunWords}
use Rattle.clap.specs.Words.{App, Text, with_rule}

-- `FILE` with more files and its map, `[--symbols FILE] [--debug-info FILE] [--source-root FOLDER]
-- [--until WHERE] [--steps N] [--status A] [--cycles] [--free]`.
abbrev pub run : App
run = with_rule (with_rule (with_rule (with_rule (with_rule (with_rule (with_rule (with_rule
    (with_files (unnamed (codes "run"))) (option_rule (codes "symbols")))
    (option_rule (codes "debug-info"))) (option_rule (codes "source-root")))
    (option_rule (codes "until"))) (option_rule (codes "steps"))) (option_rule (codes "status")))
    (flag_rule (codes "cycles"))) (flag_rule (codes "free"))

pub record RunAsked : Type 0 where
  pub file : FileAsked
  pub others : Others
  pub symbols : Option Text
  pub debug_info : Option Text
  pub source_root : Option Text
  pub until : Option Text
  pub steps : ℕ
  pub is_status_of_a : Bool
  pub tells_cycles : Bool
  pub is_free : Bool

-- The word after `--status` is `A`, if there is one.
abbrev pub status_asked : Option Text → Option Bool
status_asked None = Some false
status_asked (Some word) = if bytes_eq word (codes "A") then Some true else None

abbrev pub run_of : Option FileAsked → Others → Option Text → Option (Option Text) → Option Text
    → Option Text → Option ℕ → Option Bool → Bool → Bool → Option RunAsked
run_of (Some file) others symbols (Some debug) root until (Some steps) (Some is_status_of_a) tells_cycles is_free
    = Some (record {
      file = file;
      others = others;
      symbols = symbols;
      debug_info = debug;
      source_root = root;
      until = until;
      steps = steps;
      is_status_of_a = is_status_of_a;
      tells_cycles = tells_cycles;
      is_free = is_free;
    })
run_of file others symbols debug root until steps is_status_of_a tells_cycles is_free = None

-- What the values of the names ask for, where each is one that its name can have.
abbrev pub run_asked : (Text → Option Text) → Option RunAsked
run_asked value = run_of (file_asked value) (others_by value) (value (codes "symbols"))
    (debug_for (file_asked value) (value (codes "debug-info"))) (value (codes "source-root"))
    (value (codes "until")) (steps_asked (value (codes "steps"))) (status_asked (value (codes "status")))
    (is_flag (value (codes "cycles"))) (is_flag (value (codes "free")))

-- What the words ask for, where the values that clap finds are right.
abbrev pub words_in : List Text → Option RunAsked
words_in words = run_asked (value_in run words)

-- What was read from the words, as what they ask for.
abbrev pub run_view : RunWords → RunAsked
run_view w = record {
  file = file_view w.file;
  others = others_view w.others;
  symbols = option_map (λ s. s.now) w.symbols;
  debug_info = option_map (λ s. s.now) w.debug_info;
  source_root = option_map (λ s. s.now) w.source_root;
  until = option_map (λ s. s.now) w.until;
  steps = w.steps;
  is_status_of_a = w.is_status_of_a;
  tells_cycles = w.tells_cycles;
  is_free = w.is_free;
}
