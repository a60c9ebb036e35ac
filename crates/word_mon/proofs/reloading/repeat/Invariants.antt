use Rattle.std.proofs.Common.{[], List, drop}
use Rattle.word_mon.specs.Files.{Repeats}
use Rattle.word_mon.specs.Notes.{SeenNote}
use Rattle.mon_session.specs.declared.mon_state.MonState.{MonState}
use Rattle.word_mon.proofs.reloading.repeat.Given as goal

-- What the lines that are left lead to from here, all lead to from the start.
abbrev pub invariant-loop-noted : goal.invariant-loop-noted
invariant-loop-noted l = (new : MonState) (left : List SeenNote)
    → Repeats (drop l.noted-index l.notes) l.mon l.left.items new left
    → Repeats l.notes l.fn.mon [] new left
