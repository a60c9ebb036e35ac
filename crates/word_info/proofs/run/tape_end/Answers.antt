use Rattle.std.proofs.Common.{Bool, subst}
use Rattle.std.specs.Prelude.{IfOk, string_bytes}
use Rattle.word_info.specs.Told.{IsTapeEnd}
use Rattle.word_info.proofs.run.tape_end.Goals as goal

pub returns : goal.returns
returns c = subst (λ (b : Bool). IfOk c.twice_text.result (λ said. IsTapeEnd b c.args.bytes.now (string_bytes said)))
    c.has_count_twice-is_twice.ensures c.twice_text.ensures
