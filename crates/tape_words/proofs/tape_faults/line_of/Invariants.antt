use Rattle.std.proofs.Common.{◌≡◌, ◌+◌, ◌-◌, ◌≤◌, length}
use Rattle.tape_words.specs.Lines.{line_ends}
use Rattle.tape_words.proofs.tape_faults.line_of.Given as goal

-- The lines that ended so far, and those that will, are all of them.
abbrev pub invariant-loop-seen : goal.invariant-loop-seen
invariant-loop-seen l = record {
  counted : l.line + line_ends (l.offset - l.seen) l.rest ≡ 1 + line_ends l.offset l.text;
  short : l.line + length l.rest ≤ 1 + length l.text;
}
