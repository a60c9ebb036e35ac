use Rattle.std.proofs.Common.{ℕ, Option, is_some, ap, ◌∙◌, arith}
use Rattle.word_info.proofs.Noted.{noted_byte}
use Rattle.word_info.proofs.overlaps.note_byte.Goals as goal

pub returns : goal.returns
returns c = λ n noted. noted_byte c.args.once.now c.args.again.now c.put.new.self c.put_if.new.again n c.args.address c.is_some.result (omega arith)
    (c.is_some.ensures ∙ ap (λ (x : Option ℕ). is_some x) c.get.ensures) c.put.ensures c.put_if.ensures noted
