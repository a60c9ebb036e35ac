-- Strings behind calls, an address at a time.
use Rattle.std.proofs.Common.{◌≡◌, ◌∙◌, ℕ, zero, suc, ◌+◌, ◌-◌, ◌<◌, ◌≤◌, List, Bool, true, Option, refl, ap, arith}
use Rattle.std.specs.Prelude.{slice_set}
use Rattle.source_forms.specs.Labels.{no_flags}
use Rattle.model.specs.declared.instruction.Profile.{Profile}
use Rattle.source_forms.specs.declared.mark.Mark.{Mark}
use Rattle.reached.specs.declared.inline.Inline.{Inline}
use Rattle.reached.specs.Reached.{letters_to, reached_string, with_run, with_string}

pub run_more : (letters : List Bool) (left at : ℕ) → 0 < left → with_run letters left at ≡ with_run (slice_set letters at true) (left - 1) (at + 1)
unfolding with_run
run_more letters zero at some = absurd (omega (arith, some))
run_more letters (suc n) at some = let one : suc n - 1 ≡ n = omega arith in rw one refl

pub run_end : (letters : List Bool) (at : ℕ) → with_run letters 0 at ≡ letters
unfolding with_run
run_end letters at = refl

pub run_done : (letters all : List Bool) (left at : ℕ) → left ≤ 0 → with_run letters left at ≡ all → letters ≡ all
unfolding with_run
run_done letters all zero at none e = e
run_done letters all (suc n) at none e = absurd (omega (arith, none))

pub letters_none : (profile : Profile) (image : List (Option ℕ)) (marks : List Mark) (routines : List Inline) (reached : List Bool)
    → letters_to profile image marks routines reached 0 ≡ no_flags
unfolding letters_to
letters_none profile image marks routines reached = refl

pub letters_more : (profile : Profile) (image : List (Option ℕ)) (marks : List Mark) (routines : List Inline) (reached letters new : List Bool)
    (n : ℕ) → letters ≡ letters_to profile image marks routines reached n
    → new ≡ with_string letters (reached_string profile image marks routines reached n) → new ≡ letters_to profile image marks routines reached (n + 1)
unfolding letters_to
letters_more profile image marks routines reached letters new n so_far put =
    let one : n + 1 ≡ suc n = omega arith in
    rw one (put ∙ ap (λ (l : List Bool). with_string l (reached_string profile image marks routines reached n)) so_far)
