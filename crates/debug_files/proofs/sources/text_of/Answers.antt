use Rattle.std.proofs.Common.{rules, option_map}
use Rattle.debug_files.proofs.sources.text_of.Goals as goal

pub returns-clause-found : goal.returns-clause-found
returns-clause-found g c = record {
  read = option_map (λ t. t.items) c.in_ok-read.read;
  noted = search rules;
  text = search rules;
}
