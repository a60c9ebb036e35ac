use Rattle.std.proofs.Common.{◌≡◌, ◌≤◌, take}
use Rattle.std.specs.List.{count_by}
use Rattle.tape_words.specs.Meanings.{is_record}
use Rattle.tape_words.proofs.meanings.records_before.Given as goal

abbrev pub invariant-loop-byte : goal.invariant-loop-byte
invariant-loop-byte l = record {
  count : l.count ≡ count_by is_record (take l.byte-index l.before);
  few : l.count ≤ l.byte-index;
}
