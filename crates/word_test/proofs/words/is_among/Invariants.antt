use Rattle.std.proofs.Common.{◌≡◌, map, drop}
use Rattle.std.specs.List.{list_any}
use Rattle.word_test.specs.Asked.{has_name}
use Rattle.word_test.proofs.words.is_among.Given as goal

abbrev pub invariant-loop-file : goal.invariant-loop-file
invariant-loop-file l = list_any (has_name l.name) (map (λ f. f.now) l.files) ≡ list_any (has_name l.name) (map (λ f. f.now) (drop l.file-index l.files))
