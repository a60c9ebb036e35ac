use Rattle.std.proofs.Common.{◌≡◌, ◌-◌, take}
use Rattle.std.specs.List.{suffix_len}
use Rattle.tape_words.specs.Meanings.{is_no_record}
use Rattle.tape_words.proofs.meanings.last_record.Given as goal

abbrev pub invariant-loop-at : goal.invariant-loop-at
invariant-loop-at l = l.found ≡ l.at - suffix_len is_no_record (take l.at l.text) - 1
