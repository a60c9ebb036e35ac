-- What was read from the words, as what they ask for.
use Rattle.std.specs.Prelude.{option_map}
use Rattle.marks_files.specs.Views.{marks_view}
use Rattle.word_dis.specs.Asked.{Following, Ranges, SourceAsked}
use Rattle.word_dis.specs.declared.asked.SourceWords.{SourceWords}
use Rattle.word_dis.specs.declared.following.FollowWords.{FollowWords}
use Rattle.word_dis.specs.declared.ranges.RangeWords.{RangeWords}

abbrev pub ranges_view : RangeWords → Ranges
ranges_view w = record {
  numbers = w.numbers.items;
  letters = w.letters.items;
  addresses = w.addresses.items;
  returns = w.returns.items;
}

abbrev pub following_view : FollowWords → Following
following_view w = record {
  only = option_map (λ starts. starts.items) w.only;
  more = option_map (λ starts. starts.items) w.more;
  routines = w.routines.items;
}

abbrev pub source_view : SourceWords → SourceAsked
source_view w = record {
  tape = w.tape.now;
  form = w.form;
  first = w.first;
  last = w.last;
  said = marks_view w.said;
  only = option_map (λ starts. starts.items) w.only;
  labels = w.labels;
  addresses = w.addresses;
  symbols = option_map (λ s. s.now) w.symbols;
  marks = option_map (λ s. s.now) w.marks;
  profile = w.profile;
  fill = w.fill;
}
