use Rattle.dap_views.proofs.WhereFrames as lemmas
use Rattle.dap_views.proofs.laws.frames_are_those_of_where.Goals as goal

pub returns : goal.returns
returns c = lemmas.frames_are_those_of_where
