use Rattle.std.proofs.Common.{map}
use Rattle.clap.specs.Words.{app_of}
use Rattle.arguments.proofs.Parses.{is_misfit, memory_unless, values_of}
use Rattle.arguments.proofs.matching.matched.Goals as goal

pub returns-in_err-matches-clause-served : goal.returns-in_err-matches-clause-served
returns-in_err-matches-clause-served c fits =
    memory_unless (app_of c.args.command) (map (λ s. s.now) c.args.words.now) c.in_err-matches.field-0.0 c.from_residual.result
    (c.in_err-matches.ensures.kinds c.requires.free) c.from_residual.ensures.1 fits

pub returns-in_err-matches-clause-refused : goal.returns-in_err-matches-clause-refused
returns-in_err-matches-clause-refused c =
    is_misfit (app_of c.args.command) (map (λ s. s.now) c.args.words.now) c.in_err-matches.field-0.0 c.from_residual.result
    (c.in_err-matches.ensures.kinds c.requires.free) c.from_residual.ensures.1

pub returns-clause-values : goal.returns-clause-values
returns-clause-values c = values_of (app_of c.args.command) (map (λ s. s.now) c.args.words.now) c.in_ok-matches.matches
    (c.in_ok-matches.ensures.matches c.requires.simple).0

pub returns-clause-rows : goal.returns-clause-rows
returns-clause-rows c = (c.in_ok-matches.ensures.matches c.requires.simple).0
