use Rattle.std.proofs.Common.{◌∙◌, arith, inl, inr, refl, sym}
use Rattle.mos65_c.proofs.Cleaned.{large_stays, of_text}
use Rattle.mos65_c.proofs.assembly.assembled.Goals as goal

pub returns-then-source-gt-SOURCE_SIZE-clause-text : goal.returns-then-source-gt-SOURCE_SIZE-clause-text
returns-then-source-gt-SOURCE_SIZE-clause-text c =
    let all = c.assemble.ensures in
    of_text _ _ _ (sym (large_stays c.args.source.now (omega (arith, c.if-source-gt-SOURCE_SIZE.true)))) _
    all.denoted all.listed all.names all.only all.refused all.faulty

pub returns-in-Ok-clause-text : goal.returns-in-Ok-clause-text
returns-in-Ok-clause-text c =
    let all = c.assemble-in-Ok.ensures in
    of_text _ _ _ (c.deref.ensures.value ∙ c.in-Ok.ensures.cleaned) _ all.denoted all.listed all.names all.only all.refused all.faulty

pub returns-in-Err-clause-text : goal.returns-in-Err-clause-text
returns-in-Err-clause-text c = record {
  ok = cc;
  only = λ image denotes. refl;
  refused = inl refl;
  faulty = λ f has. inr refl;
}
