use Rattle.std.proofs.Common.{Some}
use Rattle.arguments.specs.Asked.{file_view}
use Rattle.word_mon.proofs.Starts.{named_with}
use Rattle.word_mon.proofs.starting.add_names.Goals as goal

pub returns-clause-named : goal.returns-clause-named
returns-clause-named g c = (
  Some c.in_ok-names.names,
  named_with c.args.words.now.symbols c.in-Some.path (file_view c.args.words.now.file) c.in_ok-names.names c.in-Some.is
      c.in_ok-names.ensures.assembled c.in_ok-names.ensures.named,
  rw c.in_ok-of_memory.ensures.made at c.add_all.ensures,
)
