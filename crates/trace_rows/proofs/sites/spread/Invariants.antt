use Rattle.trace_rows.proofs.Places.{Spread}
use Rattle.trace_rows.proofs.sites.spread.Given as goal

abbrev pub invariant-loop-place : goal.invariant-loop-place
invariant-loop-place l = Spread l.assembly.image l.initial.table.items l.table.items l.place l.name
