use Rattle.std.proofs.Common.{inl, inr}
use Rattle.word_mon.proofs.Again.{on_ok_map}
use Rattle.word_mon.proofs.reloading.reload.Goals as goal

pub begin_anew-requires : goal.begin_anew-requires
begin_anew-requires g c = c.in-Ok.ensures.started

pub keep_session-requires : goal.keep_session-requires
keep_session-requires g c = inr (inl (c.in-Err.ensures.named, c.in-Err.ensures.refused))

pub returns-in-Err-clause-reloaded : goal.returns-in-Err-clause-reloaded
returns-in-Err-clause-reloaded g c = on_ok_map c.keep_session.result _ _ inr c.keep_session.ensures.kept
