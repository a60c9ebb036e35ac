-- A list that is looked through, and going back by one event.
use Rattle.std.proofs.Common.{◌≡◌, ◌≢◌, ℕ, ◌+◌, ◌-◌, ◌<◌, ◌≤◌, zero, suc, Bool, true, false, cond, ◌||◌, not, List, length, take, get_or, Ok, refl, sym, ap, ◌∙◌, arith, eqb, nat_eq, length-take}
use Rattle.std.specs.List.{list_any}
use Rattle.std.proofs.lemmas.Bool.Decides.{nat_tests}
use Rattle.std.proofs.lemmas.List.{take_all}
use Rattle.std.proofs.lemmas.List.Folds.{list_any_more}
use Rattle.model.specs.State.{State}
use Rattle.model.specs.Session.{Session}
use Rattle.model.specs.Back.{without_last}
use Rattle.mon_runs.specs.Recall.{is_stop, recalled, one_more}
use Rattle.mon_runs.specs.declared.stops.Stops.{Stops}

pub none_more : (p : ℕ → Bool) (xs : List ℕ) (i : ℕ) → i < length xs
    → list_any p (take i xs) ≡ false → p (get_or xs i 0) ≡ false
    → list_any p (take (i + 1) xs) ≡ false
none_more p xs i h none here = list_any_more p xs i 0 h ∙ (λ j. none j || here j)

pub none_all : (p : ℕ → Bool) (xs : List ℕ) (i : ℕ) → length xs ≤ i
    → list_any p (take i xs) ≡ false → list_any p xs ≡ false
none_all p xs i h none = ap (list_any p) (sym (take_all i xs h)) ∙ none

pub same_byte : (a b : ℕ) → a ≡ b → not (eqb a b) ≡ false
same_byte a b h = grind (arith, nat_tests)

pub other_byte : (a b : ℕ) → a ≢ b → not (eqb a b) ≡ true
other_byte a b h = grind (arith, nat_tests)

pub same_address : (a b : ℕ) → a ≡ b → nat_eq a b ≡ true
same_address a b h = grind (arith, nat_tests)

pub other_address : (a b : ℕ) → a ≢ b → nat_eq a b ≡ false
other_address a b h = grind (arith, nat_tests)

-- ---- back by one event at a time

pub recalled-none : (stops : Stops) (s : Session) → recalled stops 0 s ≡ (0, s)
unfolding recalled
recalled-none stops s = refl

stop-is : (stops : Stops) (s t : Session) → t ≡ without_last 1 s
    → is_stop s.breaks stops (without_last 1 s).current s.current
    ≡ is_stop t.breaks stops t.current s.current
unfolding without_last
stop-is stops s t e = ap (λ x. is_stop x.breaks stops x.current s.current) (sym e)

pub recalled-stop : (stops : Stops) (n : ℕ) (s t : Session) → t ≡ without_last 1 s
    → is_stop t.breaks stops t.current s.current ≡ true
    → recalled stops (suc n) s ≡ (1, t)
unfolding recalled
recalled-stop stops n s t e h =
    ap (λ b. cond b (1, without_last 1 s) (one_more (recalled stops n (without_last 1 s)))) (stop-is stops s t e ∙ h)
    ∙ (λ i. (1, sym e i))

pub recalled-on : (stops : Stops) (n : ℕ) (s t : Session) → t ≡ without_last 1 s
    → is_stop t.breaks stops t.current s.current ≡ false
    → recalled stops (suc n) s ≡ one_more (recalled stops n t)
unfolding recalled
recalled-on stops n s t e h =
    ap (λ b. cond b (1, without_last 1 s) (one_more (recalled stops n (without_last 1 s)))) (stop-is stops s t e ∙ h)
    ∙ ap (λ x. one_more (recalled stops n x)) (sym e)

pub length-back_one : (s t : Session) → t ≡ without_last 1 s
    → length t.earlier ≡ length s.earlier - 1
unfolding without_last
length-back_one s t e = ap (λ x. length x.earlier) e ∙ length-take (length s.earlier - 1) s.earlier ∙ omega arith
