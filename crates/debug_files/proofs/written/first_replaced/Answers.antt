use Rattle.debug_files.proofs.Named.{named_here}
use Rattle.debug_files.proofs.written.first_replaced.Goals as goal
use Rattle.debug_records.specs.Views.{file_view}
use Rattle.std.proofs.Common.{option_map}

pub returns-in-Some-clause-named : goal.returns-in-Some-clause-named
returns-in-Some-clause-named g c =
    named_here _ (option_map file_view) c.args.files.now c.loop-source.source-index _ c.loop-source-test.true
    (rw c.in-Some.is at c.in_ok-path.ensures.named)
