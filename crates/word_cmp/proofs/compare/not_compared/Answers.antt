use Rattle.word_cmp.proofs.CompareWord.{refused_status}
use Rattle.word_cmp.proofs.compare.not_compared.Goals as goal

pub returns-clause-least : goal.returns-clause-least
returns-clause-least g c = (refused_status c.args.form c.args.why.why _ _ c.requires c.tell.ensures.status c.cmp_status.ensures).0

pub returns-clause-most : goal.returns-clause-most
returns-clause-most g c = (refused_status c.args.form c.args.why.why _ _ c.requires c.tell.ensures.status c.cmp_status.ensures).1

pub returns-clause-fault : goal.returns-clause-fault
returns-clause-fault g c = (refused_status c.args.form c.args.why.why _ _ c.requires c.tell.ensures.status c.cmp_status.ensures).2
