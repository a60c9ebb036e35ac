use Rattle.std.proofs.Common.{ℕ, rules}
use Rattle.std.proofs.lemmas.Fn.{filter_same}
use Rattle.mon_lines.specs.declared.command.WatchKind.TheVariants.{Change}
use Rattle.mon_runs.specs.Stops.{has_access}
use Rattle.mon_runs.proofs.stops.keep_watched.Goals as goal

pub returns : goal.returns
returns c = filter_same _ (λ (a : ℕ). has_access Change a c.args.watches.now) _ (λ x b f t. search rules) c.args.changes.now.items
    c.retain.new.self.items c.retain.ensures.filtered
