use Rattle.std.proofs.Common.{ℕ, List, length, ap, arith, length-drop}
use Rattle.image_files.proofs.form.at_record.Goals as goal

pub returns-clause-whole : goal.returns-clause-whole
returns-clause-whole c = omega (
  arith,
  c.split_at.ensures.front_len,
  ap (λ (xs : List ℕ). length xs) c.split_at.ensures.back,
  length-drop
      c.before_len.result c.args.text.now,
  c.before_len.ensures.inside,
)
