-- What clap's contract says of words.
use Rattle.std.proofs.Common.{◌≡◌, ◌∙◌, inl, inr, List, Result, Ok, Err, IfErr, refl, ap, sym, subst}
use Rattle.std.proofs.Math.Path.{fun_ext}
use Rattle.std.specs.Prelude.{IsOkUnless}
use Rattle.std.specs.Result.{IsErrAnd}
use Rattle.clap.proofs.WalkLemmas.{first_value-rows}
use Rattle.clap.specs.Words.{App, HasKind, IsAmong, Text, fault_of, first_of, first_value, found_of, kind_of, matches_of, rows_of}
use Rattle.clap.specs.declared.error.Error.{Error}
use Rattle.clap.specs.declared.error.kind.ErrorKind.TheVariants as kind
use Rattle.clap.specs.declared.parser.matches.ArgMatches.{ArgMatches}
use Rattle.arguments.specs.Words.{AnswersWords, Fits, IsMisfit, value_in}
use Rattle.arguments.specs.declared.fault.WordsFault.{WordsFault}
use Rattle.arguments.specs.declared.fault.WordsFault.TheVariants.{Help, OutOfMemory, Usage, Value, Wrong}

-- The values that were found are those of the definition.
pub values_of : (app : App) (words : List Text) (m : ArgMatches) → rows_of (found_of m) ≡ matches_of app words → first_value (found_of m) ≡ value_in app words
values_of app words m is = fun_ext (λ name. first_value-rows (found_of m) name ∙ ap (first_of name) is)

memory_answered : (e : Error) (f : WordsFault) → kind_of e ≡ kind.OutOfMemory → AnswersWords e f → f ≡ OutOfMemory
memory_answered e OutOfMemory m a = refl
memory_answered e (Help text) m a = absurd cc
memory_answered e (Usage text) m a = absurd (a.1 m)
memory_answered e Value m a = absurd a
memory_answered e (Wrong which) m a = absurd a

-- Words that clap takes are refused only if memory runs out.
only_memory : (app : App) (words : List Text) (e : Error) (f : WordsFault) → HasKind (fault_of app words) e → AnswersWords e f → Fits app words
    → f ≡ OutOfMemory
only_memory app words e f (inl m) a fits = memory_answered e f m a
only_memory app words e f (inr among) a fits = absurd (subst (IsAmong (kind_of e)) fits among)

pub memory_unless : {X : Type 0} (app : App) (words : List Text) (e : Error) (r : Result X WordsFault) → HasKind (fault_of app words) e
    → IsErrAnd r (AnswersWords e)
    → Fits app words → IsOkUnless r OutOfMemory
memory_unless app words e (Ok x) has a fits = absurd a
memory_unless app words e (Err f) has a fits = only_memory app words e f has a fits

among_of : (app : App) (words : List Text) (e text : Error) → text ≡ e → IsAmong (kind_of e) (fault_of app words) → IsAmong (kind_of text) (fault_of app words)
among_of app words e text same among = subst (λ (t : Error). IsAmong (kind_of t) (fault_of app words)) (sym same) among

misfit : (app : App) (words : List Text) (e : Error) (f : WordsFault) → HasKind (fault_of app words) e → AnswersWords e f → IsMisfit app words f
misfit app words e OutOfMemory has a = tt
misfit app words e Value has a = absurd a
misfit app words e (Wrong which) has a = absurd a
misfit app words e (Help text) (inl m) a = absurd cc
misfit app words e (Help text) (inr among) a = (ap kind_of a.0 ∙ a.1, subst (λ k. IsAmong k (fault_of app words)) a.1 among)
misfit app words e (Usage text) (inl m) a = absurd (a.1 m)
misfit app words e (Usage text) (inr among) a = (λ h. a.2 (ap kind_of (sym a.0) ∙ h), among_of app words e text a.0 among)

pub is_misfit : {X : Type 0} (app : App) (words : List Text) (e : Error) (r : Result X WordsFault) → HasKind (fault_of app words) e
    → IsErrAnd r (AnswersWords e) → IfErr r (IsMisfit app words)
is_misfit app words e (Ok x) has a = absurd a
is_misfit app words e (Err f) has a = misfit app words e f has a
