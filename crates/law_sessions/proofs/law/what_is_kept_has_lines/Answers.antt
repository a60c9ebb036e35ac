use Rattle.law_sessions.proofs.RunLines as lemmas
use Rattle.law_sessions.proofs.law.what_is_kept_has_lines.Goals as goal

pub returns : goal.returns
returns c = lemmas.what_is_kept_has_lines
