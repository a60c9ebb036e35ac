-- A line in which a word stands has that word or another one.
use Rattle.std.proofs.Common.{◌≡◌, ℕ, ◌+◌, Bool, true, false, List, [], ◌∷◌, Option, Some, Result, Ok, Err, IfOk, IfErr, if◌then◌else◌, inr, refl, subst, sym}
use Rattle.std.specs.Prelude.{◌&&◌, ◌||◌, is_err}
use Rattle.std.proofs.lemmas.Option.{none-some}
use Rattle.model.specs.SourceLine.{read_line}
use Rattle.model.specs.declared.instruction.Profile.{Profile}
use Rattle.model.specs.State.{Map}
use Rattle.lsp_answers.specs.Renames.{IsKeptAt}
use Rattle.lsp_answers.specs.Texts.{TextView}
use Rattle.name_uses.specs.Uses.{Use}
use Rattle.name_uses.specs.declared.fault.RenameFault.TheVariants.{Faulty}
use Rattle.name_uses.specs.Faulty.{faulty_from, faulty_line, has_word, is_faulty}

not_alone : (e a b : Bool) → (e && (a || b)) ≡ false → (e && (a || a)) ≡ false
not_alone false a b is = refl
not_alone true true b is = is
not_alone true false b is = refl

by_test : (faulty : Bool) (number : ℕ) (rest : Option ℕ) → (faulty ≡ false → (n : ℕ) × (rest ≡ Some n)) → (n : ℕ)
    × ((if faulty then Some number else rest) ≡ Some n)
by_test true number rest more = (number, refl)
by_test false number rest more = more refl

still_from : (profile : Profile) (word other : List ℕ) (number n : ℕ) (lines : List (List ℕ)) → faulty_from profile word word number lines ≡ Some n
    → (m : ℕ) × (faulty_from profile word other number lines ≡ Some m)
unfolding faulty_from
still_from profile word other number n [] is = absurd (none-some n is)
still_from profile word other number n (line ∷ lines) is =
    by_test (is_faulty profile word other line) number (faulty_from profile word other (number + 1) lines)
    (λ not. still_from profile word other (number + 1) n lines
    (subst (λ (b : Bool). (if b then Some number else faulty_from profile word word (number + 1) lines) ≡ Some n)
    (not_alone (is_err (read_line profile line)) (has_word word false line) (has_word other false line) not) is))

pub still_faulty : (profile : Profile) (source word other : List ℕ) (n : ℕ) → faulty_line profile source word word ≡ Some n
    → (m : ℕ) × (faulty_line profile source word other ≡ Some m)
unfolding faulty_line
still_faulty profile source word other n is = still_from profile word other 1 n _ is

-- A name that stands in a faulty line is kept, whatever the other one is.
pub kept_by : (bus_map : Map) (t : TextView) (found : Option Use) (u : Use) (n : ℕ) → found ≡ Some u
    → faulty_line bus_map.profile t.source u.text u.text ≡ Some n → (name : List ℕ) → IsKeptAt bus_map t found name
kept_by bus_map t found u n same faulty name =
    let more = still_faulty bus_map.profile t.source u.text name n faulty in
    subst (λ (f : Option Use). IsKeptAt bus_map t f name) (sym same) (inr (Faulty more.0, tt, more.1))

pub refused_by : {A B E : Type 0} (P : Type 0) (r : Result (Result A B) E) → P → IfOk r (λ x. IfErr x (λ w. P))
refused_by P (Ok (Ok a)) p = tt
refused_by P (Ok (Err w)) p = p
refused_by P (Err e) p = tt
