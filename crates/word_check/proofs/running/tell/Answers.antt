use Rattle.std.proofs.Common.{subst}
use Rattle.std.specs.Io.KnownBytes.{Appends}
use Rattle.word_check.specs.CommandLine.{check_view}
use Rattle.word_check.proofs.OneMore.{told, told_front, told_small}
use Rattle.model.specs.Writers.{AppendsFront}
use Rattle.word_check.proofs.running.tell.Goals as goal

pub returns-in-Ok-clause-tried : goal.returns-in-Ok-clause-tried
returns-in-Ok-clause-tried g c =
    told (check_view c.args.words.now) c.args.file.now c.args.found.now _ _ _ c.status_of.result c.requires c.status_of.ensures
    (subst (Appends _ _) c.deref.ensures.value c.in-Ok.ensures)

pub returns-in-Ok-clause-small : goal.returns-in-Ok-clause-small
returns-in-Ok-clause-small g c = told_small (check_view c.args.words.now) c.args.found.now c.status_of.result c.status_of.ensures

pub returns-in-Err-clause-begun : goal.returns-in-Err-clause-begun
returns-in-Err-clause-begun g c =
    told_front (check_view c.args.words.now) c.args.file.now c.args.found.now _ _ c.requires (subst (AppendsFront _ _) c.deref.ensures.value c.in-Err.ensures)
