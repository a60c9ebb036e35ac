use Rattle.std.proofs.Common.{◌≤◌, ◌⊎◌, inl, ap, refl, subst, sym, ◌∙◌}
use Rattle.arguments.specs.Words.{texts}
use Rattle.program.specs.Refused.{IsTaken}
use Rattle.arguments.specs.declared.refusal.Refusal.TheVariants.{OutOfMemory}
use Rattle.word_debug.specs.Strict.{IsToldStrict, NamesFile}
use Rattle.word_debug.proofs.Naming.{memory_told}
use Rattle.word_debug.proofs.Running.{memory_serves, same_words}
use Rattle.word_debug.proofs.strict.strict_debug.Goals as goal

pub returns-in-Ok-clause-told : goal.returns-in-Ok-clause-told
returns-in-Ok-clause-told g c one four which =
    let same = ap texts c.as_slice.ensures.value ∙ c.in-Ok.ensures in
    subst (λ words. IsToldStrict words c.serve.result.0 (g.E.Write.contents c.args.errors.now) (g.E.Write.contents c.serve.new.errors)) same
    (c.serve.ensures.told one four (subst (λ words. IsTaken words ⊎ (3 ≤ c.serve.result.0)) (sym same) which))

pub returns-in-Ok-clause-named : goal.returns-in-Ok-clause-named
returns-in-Ok-clause-named g c =
    let same = ap texts c.as_slice.ensures.value ∙ c.in-Ok.ensures in
    subst (λ words. NamesFile words c.serve.result.0 (g.E.Write.contents c.args.errors.now) (g.E.Write.contents c.serve.new.errors)) same c.serve.ensures.named

pub returns-in-Ok-clause-serves : goal.returns-in-Ok-clause-serves
returns-in-Ok-clause-serves g c =
    let same = ap texts c.as_slice.ensures.value ∙ c.in-Ok.ensures in
    same_words _ _ _ _ _ _ same c.serve.ensures.serves

pub returns-in-Err-clause-serves : goal.returns-in-Err-clause-serves
returns-in-Err-clause-serves g c = memory_serves _ _ _ _ _ c.refuse.ensures.status refl refl

pub returns-in-Err-clause-told : goal.returns-in-Err-clause-told
returns-in-Err-clause-told g c one four which = inl (OutOfMemory, c.refuse.ensures.status, c.refuse.ensures.told)

pub returns-in-Err-clause-named : goal.returns-in-Err-clause-named
returns-in-Err-clause-named g c d h taken one four = memory_told d.file c.refuse.result _ _ c.refuse.ensures.status c.refuse.ensures.told
