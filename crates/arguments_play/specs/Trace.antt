-- The command line of `trace`, and what its words ask for, by the values that clap's definition of
-- a parse finds among them. Source: mos65.
use Rattle.std.specs.Prelude.{ℕ, Bool, ◌||◌, is_some, List, Option, Some, None, codes, option_map}
use Rattle.arguments.specs.Asked.{FileAsked, file_asked, file_view, is_flag}
use Rattle.arguments.specs.CommandLine.{flag_rule, option_rule, unnamed, with_files}
use Rattle.arguments.specs.OtherFiles.{Others, others_by, others_view}
use Rattle.arguments.specs.Values.{steps_asked}
use Rattle.arguments.specs.Words.{value_in}
use Rattle.arguments_play.specs.Debug.{debug_for}
use Rattle.arguments_play.specs.declared.trace.TraceWords.{TraceWords}
use Rattle.clap.specs.Words.{App, Text, with_rule}

-- `FILE` with more files and its map, `[--symbols FILE] [--debug-info FILE] [--source-root FOLDER]
-- [--from WHERE] [--to WHERE] [--steps N] [--stores] [--count] [--lcov FILE] [--unwritten] [--free]`.
abbrev pub trace : App
trace = with_rule (with_rule (with_rule (with_rule (with_rule (with_rule (with_rule (with_rule
    (with_rule (with_rule (with_rule (with_files (unnamed (codes "trace"))) (option_rule (codes "symbols")))
    (option_rule (codes "debug-info"))) (option_rule (codes "source-root"))) (option_rule (codes "from"))) (option_rule (codes "to"))) (option_rule (codes "steps")))
    (flag_rule (codes "stores"))) (flag_rule (codes "count"))) (option_rule (codes "lcov")))
    (flag_rule (codes "unwritten"))) (flag_rule (codes "free"))

pub record TraceAsked : Type 0 where
  pub file : FileAsked
  pub others : Others
  pub symbols : Option Text
  pub debug_info : Option Text
  pub source_root : Option Text
  pub from : Option Text
  pub to : Option Text
  pub steps : ℕ
  pub shows_stores : Bool
  pub counts : Bool
  pub lcov : Option Text
  pub finds_unwritten : Bool
  pub is_free : Bool

-- Where a file for lcov is asked for, so are counts.
abbrev pub trace_of : Option FileAsked → Others → Option Text → Option (Option Text) → Option Text
    → Option Text → Option Text → Option ℕ → Bool → Bool → Option Text → Bool → Bool → Option TraceAsked
trace_of (Some file) others symbols (Some debug) root from to (Some steps) shows_stores counts lcov finds_unwritten is_free
    = Some (record {
      file = file;
      others = others;
      symbols = symbols;
      debug_info = debug;
      source_root = root;
      from = from;
      to = to;
      steps = steps;
      shows_stores = shows_stores;
      counts = counts || is_some lcov;
      lcov = lcov;
      finds_unwritten = finds_unwritten;
      is_free = is_free;
    })
trace_of file others symbols debug root from to steps shows_stores counts lcov finds_unwritten is_free = None

-- What the values of the names ask for, where each is one that its name can have.
abbrev pub trace_asked : (Text → Option Text) → Option TraceAsked
trace_asked value = trace_of (file_asked value) (others_by value) (value (codes "symbols"))
    (debug_for (file_asked value) (value (codes "debug-info"))) (value (codes "source-root"))
    (value (codes "from")) (value (codes "to")) (steps_asked (value (codes "steps")))
    (is_flag (value (codes "stores"))) (is_flag (value (codes "count"))) (value (codes "lcov"))
    (is_flag (value (codes "unwritten"))) (is_flag (value (codes "free")))

-- What the words ask for, where the values that clap finds are right.
abbrev pub words_in : List Text → Option TraceAsked
words_in words = trace_asked (value_in trace words)

-- What was read from the words, as what they ask for.
abbrev pub trace_view : TraceWords → TraceAsked
trace_view w = record {
  file = file_view w.file;
  others = others_view w.others;
  symbols = option_map (λ s. s.now) w.symbols;
  debug_info = option_map (λ s. s.now) w.debug_info;
  source_root = option_map (λ s. s.now) w.source_root;
  from = option_map (λ s. s.now) w.from;
  to = option_map (λ s. s.now) w.to;
  steps = w.steps;
  shows_stores = w.shows_stores;
  counts = w.counts;
  lcov = option_map (λ s. s.now) w.lcov;
  finds_unwritten = w.finds_unwritten;
  is_free = w.is_free;
}
