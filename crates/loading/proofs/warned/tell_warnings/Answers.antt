use Rattle.arguments.specs.Asked.{file_view, map_of}
use Rattle.loading.proofs.WarningsTold.{some_told}
use Rattle.loading.proofs.warned.tell_warnings.Goals as goal

pub returns-in-Some : goal.returns-in-Some
returns-in-Some g c =
    some_told (map_of (file_view c.args.words.now)) c.args.assembly c.in-Some.assembly (record {
      held = g.E.Write.contents c.args.errors.now;
      now = g.E.Write.contents c.tell_count.new.errors;
    }) c.warning_count-count.result c.args.lost c.args.fill c.in-Some.is c.warning_count-count.ensures c.tell_count.ensures
