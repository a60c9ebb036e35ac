-- What a parse of words says, once it is known which command line it is of: what they ask for, and
-- why they are refused, where they do not fit or a value is wrong.
use Rattle.std.proofs.Common.{◌≡◌, ◌∙◌, ◌⊎◌, ℕ, arith, inl, inr, List, Option, Some, None, Result, Ok, Err, IfErr, ap, sym, subst}
use Rattle.std.proofs.Math.Path.{fun_ext}
use Rattle.std.specs.Prelude.{IsOkUnless}
use Rattle.std.specs.Result.{IsErrAnd}
use Rattle.clap.proofs.WalkLemmas.{raw_values-rows}
use Rattle.clap.specs.Words.{App, Text, all_of, found_of, kind_of, matches_of, rows_of}
use Rattle.clap.specs.declared.parser.matches.ArgMatches.{ArgMatches}
use Rattle.arguments.specs.Words.{Fits, IsMisfit, IsRefusalOf, IsStatusOf, SaysOfWords, all_values, value_in, values_in}
use Rattle.arguments.specs.WrongValues.{IsOfValue}
use Rattle.arguments.specs.declared.fault.WordsFault.{WordsFault}
use Rattle.arguments.specs.declared.fault.WordsFault.TheVariants.{Help, OutOfMemory, Usage, Value, Wrong}

-- Words that do not fit are refused whatever the values are.
pub misfit_refused : (app : App) (words : List Text) (W : Type 0) (fault : WordsFault) → IsMisfit app words fault → IsRefusalOf app words W fault
misfit_refused app words W (Help text) is = is
misfit_refused app words W (Usage text) is = is
misfit_refused app words W Value is = absurd is.1
misfit_refused app words W (Wrong which) is = absurd is.1
misfit_refused app words W OutOfMemory is = tt

neither : (status : ℕ) → status ≡ 2 → (status ≡ 0) ⊎ (status ≡ 4) → ⊥
neither status two (inl zero) = omega (arith, two, zero)
neither status two (inr four) = omega (arith, two, four)

nor : (status : ℕ) → status ≡ 3 → (status ≡ 0) ⊎ (status ≡ 4) → ⊥
nor status three (inl zero) = omega (arith, three, zero)
nor status three (inr four) = omega (arith, three, four)

-- What the status of refused words says.
pub says_of_words : (app : App) (words : List Text) (W : Type 0) (fault : WordsFault) (status : ℕ) → IsRefusalOf app words W fault
    → IsStatusOf fault status → SaysOfWords app words W status
says_of_words app words W (Help text) status is (inl zero) =
    record { help = λ h. is.1; never = λ h. omega (arith, zero, h); wrong = λ h. absurd (omega (arith, zero, h)) }
says_of_words app words W (Help text) status is (inr four) =
    record { help = λ h. is.1; never = λ h. omega (arith, four, h); wrong = λ h. absurd (omega (arith, four, h)) }
says_of_words app words W (Usage text) status is two = record
    { help = λ h. absurd (neither status two h); never = λ h. omega (arith, two, h); wrong = λ h. inl (kind_of text, is.0, is.1) }
says_of_words app words W Value status is two = record {
  help = λ h. absurd (neither status two h);
  never = λ h. omega (arith, two, h);
  wrong =
      λ h. inr (is.0, is.1);
}
says_of_words app words W (Wrong which) status is two = record
    { help = λ h. absurd (neither status two h); never = λ h. omega (arith, two, h); wrong = λ h. inr (is.0, is.1) }
says_of_words app words W OutOfMemory status is three = record
    { help = λ h. absurd (nor status three h); never = λ h. omega (arith, three, h); wrong = λ h. absurd (omega (arith, three, h)) }

-- ---- a command line that is known

pub fits_by : (app is : App) (words : List Text) → app ≡ is → Fits app words → Fits is words
fits_by app is words same fits = subst (λ (a : App). Fits a words) same fits

-- What is asked for by the values that were found.
pub asked_by : {A : Type 0} (of : (Text → Option Text) → Option A) (app is : App) (words : List Text) (found : Text → Option Text)
    → app ≡ is → found ≡ value_in app words → of found ≡ of (value_in is words)
asked_by of app is words found same values = ap of (values ∙ ap (λ (a : App). value_in a words) same)

pub not_both : {A : Type 0} (o : Option A) (a : A) → o ≡ Some a → o ≡ None → ⊥
not_both o a some none = absurd cc

pub one_asked : {A : Type 0} (o : Option A) (a b : A) → o ≡ Some a → o ≡ Some b → a ≡ b
one_asked o a b x y = cc

-- A wrong value is refused with a sentence on it, or with none.
pub value_refused : (app : App) (words : List Text) (W : Type 0) (said : Option (List ℕ)) (fault : WordsFault) → IsOfValue said fault → Fits app words
    → W → IsRefusalOf app words W fault
value_refused app words W (Some text) (Wrong which) is fits wrong = (fits, wrong)
value_refused app words W None Value is fits wrong = (fits, wrong)
value_refused app words W (Some text) Value is fits wrong = absurd is
value_refused app words W None (Wrong which) is fits wrong = absurd is
value_refused app words W (Some text) (Help help) is fits wrong = absurd is
value_refused app words W None (Help help) is fits wrong = absurd is
value_refused app words W (Some text) (Usage usage) is fits wrong = absurd is
value_refused app words W None (Usage usage) is fits wrong = absurd is
value_refused app words W said OutOfMemory is fits wrong = tt

-- ---- words that do not fit, where their fault is passed on

pub served_by : {X : Type 0} (app is : App) (words : List Text) (fault : WordsFault) (result : Result X WordsFault) → app ≡ is
    → (Fits app words → fault ≡ OutOfMemory) → IsErrAnd result (λ f. f ≡ fault) → Fits is words → IsOkUnless result OutOfMemory
served_by app is words fault (Ok x) same served passed fits = absurd passed
served_by app is words fault (Err f) same served passed fits = passed ∙ served (subst (λ (a : App). Fits a words) (sym same) fits)

pub refused_by : {X : Type 0} (app is : App) (words : List Text) (W : Type 0) (fault : WordsFault) (result : Result X WordsFault) → app ≡ is
    → IsMisfit app words fault → IsErrAnd result (λ f. f ≡ fault) → IfErr result (IsRefusalOf is words W)
refused_by app is words W fault (Ok x) same misfit passed = absurd passed
refused_by app is words W fault (Err f) same misfit passed =
    misfit_refused is words W f (subst (IsMisfit is words) (sym passed) (subst (λ (a : App). IsMisfit a words fault) same misfit))

-- ---- several values of a name

-- All values that are found of a name are those of the definition.
pub all_found : (app : App) (words : List Text) (m : ArgMatches) → rows_of (found_of m) ≡ matches_of app words → all_values (found_of m) ≡ values_in app words
all_found app words m rows = fun_ext (λ name. raw_values-rows (found_of m) name ∙ ap (all_of name) rows)
