use Rattle.std.proofs.Common.{◌≡◌, ◌∙◌, Some, None, ap, arith, inl, inr, refl, subst, sym}
use Rattle.arguments.proofs.Parsed.{one_asked}
use Rattle.arguments.proofs.Refusing.{not_refused, refuses}
use Rattle.arguments.specs.Words.{IsStatusOf, texts}
use Rattle.arguments.specs.declared.refusal.Refusal.TheVariants as refusal
use Rattle.program.specs.Asked.{debug}
use Rattle.program.specs.CommandLine.{mos65}
use Rattle.program.specs.Views.{debug_view, view}
use Rattle.program.proofs.Lines.{told_of_words}
use Rattle.program.proofs.Transcripts.{one_debug}
use Rattle.word_debug.proofs.Naming.{memory_named}
use Rattle.word_debug.proofs.Running.{memory_runs, refused_of}
use Rattle.word_debug.proofs.strict.serve.Goals as goal

-- the words were right, and a session was watched
pub returns-in-Some-clause-told : goal.returns-in-Some-clause-told
returns-in-Some-clause-told g c one four which =
    inr (debug_view c.in-Some.words.now, c.in-Ok.ensures.asked ∙ ap Some c.in-Some.ensures.some, c.serve_session.ensures.told one four)

pub returns-in-Some-clause-named : goal.returns-in-Some-clause-named
returns-in-Some-clause-named g c d h taken one four =
    let same = one_debug _ (debug_view c.in-Some.words.now) d (c.in-Ok.ensures.asked ∙ ap Some c.in-Some.ensures.some) h in
    rw (sym same) (c.serve_session.ensures.told one four)

pub returns-in-Some-clause-serves : goal.returns-in-Some-clause-serves
returns-in-Some-clause-serves g c = record {
  untouched = c.serve_session.ensures.untouched;
  refuses = not_refused mos65 (texts c.args.plain.now) _ _ _ _ c.in-Ok.ensures.taken
      (λ none. let no : Some (view c.in-Ok.words) ≡ None = sym c.in-Ok.ensures.asked ∙ none in absurd cc);
  serves = λ d h taken.
      let same = one_debug _ (debug_view c.in-Some.words.now) d (c.in-Ok.ensures.asked ∙ ap Some c.in-Some.ensures.some) h in
      rw (sym same) c.serve_session.ensures.runs;
}

-- the words were of another word
pub returns-in-None-clause-told : goal.returns-in-None-clause-told
returns-in-None-clause-told g c one four which = inl (refusal.Words, c.refuse.ensures.status, c.refuse.ensures.told)

pub returns-in-None-clause-named : goal.returns-in-None-clause-named
returns-in-None-clause-named g c d h taken = absurd (c.in-None.ensures.none d (one_asked _ (view c.in-Ok.words) (debug d) c.in-Ok.ensures.asked h))

pub returns-in-None-clause-serves : goal.returns-in-None-clause-serves
returns-in-None-clause-serves g c = record {
  untouched = λ one two. (refl, refl);
  refuses = not_refused mos65 (texts c.args.plain.now) _ _ _ _ c.in-Ok.ensures.taken
      (λ none. let no : Some (view c.in-Ok.words) ≡ None = sym c.in-Ok.ensures.asked ∙ none in absurd cc);
  serves = λ d h taken. absurd (c.in-None.ensures.none d (one_asked _ (view c.in-Ok.words) (debug d) c.in-Ok.ensures.asked h));
}

-- words that were rejected
pub returns-in-Err-clause-told : goal.returns-in-Err-clause-told
returns-in-Err-clause-told g c one four which =
    inl (told_of_words _ _ c.refused.result.0 _ _ c.in-Err.ensures.refused c.refused.ensures.status c.refused.ensures.told one which)

pub returns-in-Err-clause-named : goal.returns-in-Err-clause-named
returns-in-Err-clause-named g c d h taken one four =
    let memory = c.in-Err.ensures.served (debug d) taken h in
    memory_named d.file _ c.refused.result.0 _ _ memory c.refused.ensures.status c.refused.ensures.told

pub returns-in-Err-clause-serves : goal.returns-in-Err-clause-serves
returns-in-Err-clause-serves g c = record {
  untouched = λ one two. (refl, c.refused.ensures.untouched one (omega (arith, two)));
  refuses = refuses mos65 (texts c.args.plain.now) _ _ _ _ _ (refused_of _ _ c.in-Err.ensures.refused) c.refused.ensures.status refl
      c.refused.ensures.untouched;
  serves = λ d h taken.
      let memory = c.in-Err.ensures.served (debug d) taken h in
      let three : c.refused.result.0 ≡ 3 = subst (λ f. IsStatusOf f c.refused.result.0) memory c.refused.ensures.status in
      memory_runs d _ _ _ three (refl, c.refused.ensures.untouched (omega (arith, three)) (omega (arith, three)));
}
