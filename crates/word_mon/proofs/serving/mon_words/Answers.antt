use Rattle.std.proofs.Common.{inl, refl}
use Rattle.word_mon.proofs.serving.mon_words.Goals as goal

pub mon_loaded-requires : goal.mon_loaded-requires
mon_loaded-requires g c = let started = c.in-Ok.ensures.started in (started.0, started.1, started.2, started.3)

pub returns-in-Err-clause-done : goal.returns-in-Err-clause-done
returns-in-Err-clause-done g c =
    inl (c.in-Err.why.file.now, c.in-Err.why.fault, c.in-Err.ensures.named, c.in-Err.ensures.refused, c.tell.ensures.status, c.tell.ensures.told, (refl, refl))
