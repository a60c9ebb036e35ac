use Rattle.std.proofs.Common.{◌≡◌, drop}
use Rattle.word_mend.specs.Reported.{place_from, place_in}
use Rattle.word_mend.proofs.run.place_in.Given as goal

abbrev pub invariant-loop-place : goal.invariant-loop-place
invariant-loop-place l = place_from l.left l.is_first l.place (drop l.place l.text) ≡ place_in l.text l.made
