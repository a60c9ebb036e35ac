use Rattle.std.proofs.Common.{rules}
use Rattle.serde_json.specs.declared.value.Value.{the_lemmas}
use Rattle.word_lsp.specs.Capabilities.{renames}
use Rattle.word_lsp.proofs.capabilities.renames.Goals as goal

pub returns-then-client : goal.returns-then-client
unfolding renames
returns-then-client c = rw (c.if-client.true) (c.build.ensures _ (c.flag.ensures _ c.new.ensures))

pub returns-else-client : goal.returns-else-client
unfolding renames
returns-else-client c = rw (c.if-client.false) (search (rules, the_lemmas))
