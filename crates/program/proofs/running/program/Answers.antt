use Rattle.std.proofs.Common.{◌≡◌, Err, arith, inl, inr, refl, subst}
use Rattle.arguments.specs.Words.{IsStatusOf}
use Rattle.arguments.specs.declared.refusal.Refusal.TheVariants.{OutOfMemory}
use Rattle.program.specs.Asked.{debug, dis}
use Rattle.program.specs.Views.{debug_view}
use Rattle.program.proofs.Lines.{told_of_words}
use Rattle.program.proofs.Transcripts.{one_debug, runs_debug}
use Rattle.program.proofs.running.program.Goals as goal

-- the words were right, so memory ran out
pub returns-in-Err-clause-debug : goal.returns-in-Err-clause-debug
returns-in-Err-clause-debug g c d h taken =
    let memory = c.in-Err.ensures.served (debug d) taken h in
    let three : c.refused_words.result ≡ 3 = subst (λ f. IsStatusOf f c.refused_words.result) memory c.refused_words.ensures.status in record {
      tells = record { bad = λ no. inr three; right = λ makes two. absurd (omega (arith, three, two)) };
      serves = (Err OutOfMemory, three, inl (refl, c.refused_words.ensures.untouched (omega (arith, three)) (omega (arith, three))));
      ended = λ zero. absurd (omega (arith, three, zero));
    }

pub returns-in-Err-clause-dis : goal.returns-in-Err-clause-dis
returns-in-Err-clause-dis g c d h taken =
    let memory = c.in-Err.ensures.served (dis d) taken h in
    let three : c.refused_words.result ≡ 3 = subst (λ f. IsStatusOf f c.refused_words.result) memory c.refused_words.ensures.status in
    (Err OutOfMemory, three, refl, c.refused_words.ensures.untouched (omega (arith, three)) (omega (arith, three)))

pub returns-in-Ok-Debug-clause-debug : goal.returns-in-Ok-Debug-clause-debug
returns-in-Ok-Debug-clause-debug g c d h taken =
    let same = one_debug _ (debug_view c.in-Ok-Debug.words) d (rw c.in-Ok-Debug.field-0-is at c.in-Ok-Debug.ensures.asked) h in
    runs_debug (debug_view c.in-Ok-Debug.words) d _ _ c.debug.result c.finish-in-Ok-Debug.result same c.debug.ensures.bad_map c.debug.ensures.refused
    c.debug.ensures.served c.finish-in-Ok-Debug.ensures.status

-- words that were rejected
pub returns-in-Err-clause-told : goal.returns-in-Err-clause-told
returns-in-Err-clause-told g c some which =
    told_of_words _ _ c.refused_words.result _ _ c.in-Err.ensures.refused c.refused_words.ensures.status c.refused_words.ensures.told some which
