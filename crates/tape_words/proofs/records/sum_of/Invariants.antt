use Rattle.std.proofs.Common.{◌≡◌, ◌*◌, ◌≤◌, sum, take}
use Rattle.model.specs.Tape.{bytes_of_digits}
use Rattle.tape_words.proofs.records.sum_of.Given as goal

abbrev pub invariant-loop-k : goal.invariant-loop-k
invariant-loop-k l = record {
  summed : l.sum ≡ sum (take l.k (bytes_of_digits l.digits));
  small : l.sum ≤ 255 * l.k;
}
