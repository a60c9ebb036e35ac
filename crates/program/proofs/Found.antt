-- What clap's definition of a parse finds among the words.
use Rattle.std.proofs.Common.{◌≡◌, ◌∙◌, ◌⊎◌, inr, List, Option, Some, None, Result, Ok, Err, IfErr, true, refl, ap, sym, subst, codes, option_map, ap₂, unwrap_or}
use Rattle.std.specs.Prelude.{IsOkUnless}
use Rattle.std.specs.Result.{IsErrAnd}
use Rattle.std.specs.Box.{box_value}
use Rattle.clap.proofs.OnLiterals.{clap_on_literals}
use Rattle.clap.proofs.WalkLemmas.{first_value-rows}
use Rattle.clap.specs.Faults.{is_simple_and_free}
use Rattle.clap.specs.Matches.{subcommand_name_of}
use Rattle.clap.specs.Words.{App, Row, Text, first_of, first_value, found_of, is_simple, rows_of, subcommand_of, subcommand_rows_of}
use Rattle.clap.specs.declared.parser.matches.ArgMatches.{ArgMatches}
use Rattle.clap.specs.declared.parser.matches.ArgMatches.TheViews.{out-ArgMatches, out-SubCommand}
use Rattle.clap.specs.declared.parser.matches.Found.{Found}
use Rattle.arguments.specs.Words.{IsMisfit}
use Rattle.arguments.specs.declared.fault.WordsFault.{WordsFault}
use Rattle.arguments.specs.declared.fault.WordsFault.TheVariants.{Help, OutOfMemory, Usage, Value, Wrong}
use Rattle.program.specs.Asked.{Asked, words_in, asked_of, asm, asm_asked, debug, debug_asked, dis, dis_asked}
use Rattle.program.specs.CommandLine.{mos65}
use Rattle.program.specs.Refused.{IsRightRefusal}
use Rattle.program.specs.declared.asked.Words.{Words}

-- clap's definition speaks of this command line
pub mos65_simple : is_simple mos65 ≡ true
unfolding clap_on_literals
mos65_simple = refl

pub mos65_free : is_simple_and_free mos65 ≡ true
unfolding clap_on_literals
mos65_free = refl

-- ---- words that clap refuses

-- words that do not fit are refused, and never with a sentence on a value
pub right : (words : List Text) (fault : WordsFault) → IsMisfit mos65 words fault → IsRightRefusal words fault
right words (Help text) is = is
right words (Usage text) is = is
right words Value is = absurd is.1
right words (Wrong which) is = absurd is.1
right words OutOfMemory is = tt

abbrev Answer : Type 0
Answer = Result Words WordsFault

pub memory_or : (r : Answer) (fault : WordsFault) → IsErrAnd r (λ e. e ≡ fault) → fault ≡ OutOfMemory → (r ≡ Err Value) ⊎ (r ≡ Err OutOfMemory)
memory_or (Ok x) fault is memory = absurd is
memory_or (Err e) fault is memory = inr (ap Err (is ∙ memory))

pub refused : (r : Answer) (words : List Text) (fault : WordsFault) → IsErrAnd r (λ e. e ≡ fault) → IsMisfit mos65 words fault → IfErr r (IsRightRefusal words)
refused (Ok x) words fault is misfit = absurd is
refused (Err e) words fault is misfit = subst (IsRightRefusal words) (sym is) (right words fault misfit)

-- ---- words that clap takes

-- what was found of the subcommand
pub found_asked : (app : App) (words : List Text) (found : Option (Text × List Row)) → app ≡ mos65 → found ≡ subcommand_of app words
    → asked_of found ≡ words_in words
found_asked app words found is parse = ap asked_of (parse ∙ ap (λ (a : App). subcommand_of a words) is)

firsts : {A : Type 0} (f : A → Text) (g : A → List Row) (o : Option A)
    → option_map f o ≡ option_map (λ (p : Text × List Row). p.0) (option_map (λ b. (f b, g b)) o)
firsts f g None = refl
firsts f g (Some b) = refl

-- the subcommand's name
name_among : (m : ArgMatches) → subcommand_name_of m ≡ option_map (λ (p : Text × List Row). p.0) (subcommand_rows_of m)
name_among m = firsts (λ b. (out-SubCommand (box_value b)).name.now) (λ b. rows_of (found_of (out-SubCommand (box_value b)).matches))
    (out-ArgMatches m).subcommand

both_are : (found : Option (Text × List Row)) (name : Text) (rows : List Row) → option_map (λ (p : Text × List Row). p.0) found ≡ Some name
    → option_map (λ (p : Text × List Row). p.1) found ≡ Some rows → found ≡ Some (name, rows)
both_are None name rows h k = cc
both_are (Some p) name rows h k =
    ap₂ (λ (n : Text) (r : List Row). Some (n, r)) (ap (λ (o : Option Text). unwrap_or o name) h) (ap (λ (o : Option (List Row)). unwrap_or o rows) k)

asm_by_rows : (f : Found) → asm_asked (first_value f) ≡ asm_asked (λ name. first_of name (rows_of f))
asm_by_rows f = rw (
  first_value-rows f (codes "SOURCE"),
  first_value-rows f (codes "TAPE"),
  first_value-rows f (codes "listing"),
  first_value-rows f
      (codes "port"),
  first_value-rows f (codes "profile"),
) refl

dis_by_rows : (f : Found) → dis_asked (first_value f) ≡ dis_asked (λ name. first_of name (rows_of f))
dis_by_rows f = rw (
  first_value-rows f (codes "TAPE"),
  first_value-rows f (codes "LO"),
  first_value-rows f (codes "HI"),
  first_value-rows f
      (codes "profile"),
) refl

debug_by_rows : (f : Found) → debug_asked (first_value f) ≡ debug_asked (λ name. first_of name (rows_of f))
debug_by_rows f =
    rw (
      first_value-rows f (codes "FILE"),
      first_value-rows f (codes "tape"),
      first_value-rows f (codes "history"),
      first_value-rows f (codes "port"),
      first_value-rows f (codes "rom"),
      first_value-rows f (codes "profile"),
    ) refl

pub asm_found : (m : ArgMatches) (f : Found) (name : Text) → Some name ≡ subcommand_name_of m
    → Some (rows_of f) ≡ option_map (λ (p : Text × List Row). p.1) (subcommand_rows_of m) → name ≡ codes "asm"
    → option_map asm (asm_asked (first_value f)) ≡ asked_of (subcommand_rows_of m)
asm_found m f name names rows is =
    ap (option_map asm) (asm_by_rows f) ∙ ap asked_of (sym (both_are (subcommand_rows_of m) (codes "asm") (rows_of f)
    (sym (name_among m) ∙ sym names ∙ ap (λ t. Some t) is) (sym rows)))

pub dis_found : (m : ArgMatches) (f : Found) (name : Text) → Some name ≡ subcommand_name_of m
    → Some (rows_of f) ≡ option_map (λ (p : Text × List Row). p.1) (subcommand_rows_of m) → name ≡ codes "dis"
    → option_map dis (dis_asked (first_value f)) ≡ asked_of (subcommand_rows_of m)
dis_found m f name names rows is =
    ap (option_map dis) (dis_by_rows f) ∙ ap asked_of (sym (both_are (subcommand_rows_of m) (codes "dis") (rows_of f)
    (sym (name_among m) ∙ sym names ∙ ap (λ t. Some t) is) (sym rows)))

pub debug_found : (m : ArgMatches) (f : Found) (name : Text) → Some name ≡ subcommand_name_of m
    → Some (rows_of f) ≡ option_map (λ (p : Text × List Row). p.1) (subcommand_rows_of m) → name ≡ codes "debug"
    → option_map debug (debug_asked (first_value f)) ≡ asked_of (subcommand_rows_of m)
debug_found m f name names rows is =
    ap (option_map debug) (debug_by_rows f) ∙ ap asked_of (sym
    (both_are (subcommand_rows_of m) (codes "debug") (rows_of f) (sym (name_among m) ∙ sym names ∙ ap (λ t. Some t) is) (sym rows)))
