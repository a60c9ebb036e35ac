use Rattle.mon_runs.proofs.Again as lemmas
use Rattle.mon_runs.proofs.laws.redo_is_exact.Goals as goal

pub returns : goal.returns
returns c = lemmas.redo_is_exact
