use Rattle.std.proofs.Common.{◌≡◌, ◌-◌, ◌*◌, ◌≤◌, length}
use Rattle.model.specs.Run.{after_steps, run_end}
use Rattle.page_data.specs.Runs.{IsRecorded}
use Rattle.mos65_c.proofs.RunsOfOne.{later}
use Rattle.mos65_c.proofs.records.record_run.Given as goal

-- the whole run is what is left of it, after the steps so far; the records are those of these steps
abbrev pub invariant-loop-did : goal.invariant-loop-did
invariant-loop-did l =
    (run_end l.limit l.fn.session ≡ later l.did (run_end (l.limit - l.did) l.session))
    × (l.session ≡ after_steps l.did l.fn.session)
    × IsRecorded l.fn.session.current l.records.items l.session.current
    × (length l.records.items ≤ 26 * l.did)
