use Rattle.std.proofs.Common.{refl, sym}
use Rattle.arguments_play.specs.Mon.{mon_view}
use Rattle.word_mon.proofs.Again.{ends_then}
use Rattle.word_mon.proofs.reloading.keep_session.Goals as goal

pub returns-clause-kept : goal.returns-clause-kept
returns-clause-kept c = (
  (c.say_unloaded.ensures.shows, refl, refl, refl, refl, refl),
  c.args.file.now,
  c.args.fault,
  ends_then (mon_view c.args.terminal.now.words.now) c.args.file.now c.args.fault (sym c.if-is_memory.ensures) c.requires,
  rw c.in_ok-of_memory.ensures.made at c.say_unloaded.ensures.said,
)
