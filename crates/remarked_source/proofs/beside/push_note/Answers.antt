use Rattle.std.proofs.Common.{rules}
use Rattle.remarked_source.proofs.Notes.{elsewhere, here}
use Rattle.remarked_source.proofs.beside.push_note.Goals as goal

pub returns-then-not-is_note : goal.returns-then-not-is_note
returns-then-not-is_note c = λ rs. elsewhere c.args.texts.now c.args.low c.args.high c.args.first c.args.remark rs c.args.out.now.items (search rules)

pub returns : goal.returns
returns c = λ rs. here c.args.texts.now c.args.low c.args.high c.args.first c.args.remark rs c.args.out.now.items _ (search rules) (search rules)
