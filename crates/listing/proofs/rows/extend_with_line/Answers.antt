use Rattle.std.proofs.Common.{arith}
use Rattle.std.proofs.lemmas.Grind.{common_steps}
use Rattle.listing.proofs.Groups.{kept_on}
use Rattle.listing.proofs.rows.extend_with_line.Goals as goal

pub returns-clause-kept : goal.returns-clause-kept
returns-clause-kept c = kept_on c.args.out.now.items c.push.new.self.items c.push_groups.new.out.items (grind (arith, common_steps)) c.push_groups.ensures.kept
