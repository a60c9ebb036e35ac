use Rattle.std.proofs.Common.{◌≡◌, ◌+◌, ◌≤◌, length}
use Rattle.model.specs.Source.{up_to_end}
use Rattle.model.specs.TextLines.{lines_of}
use Rattle.name_uses.specs.Faulty.{faulty_from, faulty_line}
use Rattle.name_uses.proofs.faulty.faulty_line.Given as goal

abbrev pub invariant-loop-rest : goal.invariant-loop-rest
invariant-loop-rest l = record {
  found : faulty_from l.profile l.word l.other l.number (up_to_end l.profile (lines_of l.rest)) ≡ faulty_line l.profile l.source l.word l.other;
  room : l.number + length l.rest ≤ 1048577;
}

abbrev pub decreases-loop-rest : goal.decreases-loop-rest
decreases-loop-rest l = length l.rest
