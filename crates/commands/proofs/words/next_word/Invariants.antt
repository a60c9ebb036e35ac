use Rattle.std.proofs.Common.{◌≡◌, ◌≤◌, ◌-◌, length, drop, take, true}
use Rattle.std.specs.List.{list_all}
use Rattle.model.specs.Commands.{after_word}
use Rattle.commands.specs.Words.{no_space}
use Rattle.commands.proofs.words.next_word.Given as goal

abbrev pub invariant-loop-end : goal.invariant-loop-end
invariant-loop-end l = record {
  within : l.end ≤ length l.front;
  word : list_all no_space (take l.end l.front) ≡ true;
  behind : after_word (drop l.end l.front) ≡ after_word l.front;
}

abbrev pub decreases-loop-end : goal.decreases-loop-end
decreases-loop-end l = length l.front - l.end
