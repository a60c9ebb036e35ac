-- What was read from the words of `test`, as what they ask for. Source: mos65.
use Rattle.std.specs.Prelude.{map, option_map}
use Rattle.word_test.specs.Asked.{TestAsked}
use Rattle.t65_suites.specs.Suites.{reading_view}
use Rattle.word_test.specs.declared.words.TestWords.{TestWords}

abbrev pub test_view : TestWords → TestAsked
test_view w = record {
  files = map (λ f. f.now) w.files.items;
  sources = map (λ f. f.now) w.sources.items;
  reading = reading_view w.reading;
  junit = option_map (λ f. f.now) w.junit;
  coverage = option_map (λ f. f.now) w.coverage;
  steps = w.steps;
  telling = w.telling;
}
