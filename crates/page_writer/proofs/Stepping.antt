-- The steps of a run so far, one turn after another.
use Rattle.std.proofs.Common.{◌≡◌, ◌∙◌, ◌+◌, ◌-◌, ◌≤◌, ◌<◌, ℕ, suc, Bool, true, false, cond, List, [], ◌∷◌, ◌++◌, Option, Some, None, sym, ap, arith, append-nil, append_assoc}
use Rattle.std.proofs.Math.Nat.{sub-zero}
use Rattle.console.specs.Playing.{Play, Turn, is_at, turn_of}
use Rattle.console.specs.Turns.{EndsOnce, Known, MayCome, TurnsTo, play_at, turn_to}
use Rattle.console.specs.declared.ending.Ending.{Ending}
use Rattle.model.specs.Session.{Session}
use Rattle.page_writer.specs.Steps.{Made, made_in, steps_after, steps_of}
use Rattle.page_writer.proofs.Turning.{turn_line}

-- So far: whatever comes after what was told, these are the steps, and then those of the rest.
pub record StepsOn (until : Option ℕ) (limit : ℕ) (s : Session) (first : Known) (told : List ℕ) (over : Bool) (steps : ℕ) (t : Session) (memo : Known)
    (done : List Made) : Type 0 where
  pub are : (rest : List ℕ) → MayCome over rest → steps_of until limit (play_at s first (told ++ rest)) ≡ done
      ++ steps_of until (limit - steps) (play_at t memo rest)

pub none_made : (until : Option ℕ) (limit : ℕ) (s : Session) (first : Known) (over : Bool) → StepsOn until limit s first [] over 0 s first []
none_made until limit s first over = record {
  are = λ rest may. ap (λ n. steps_of until n (play_at s first rest)) (sym (sub-zero limit));
}

one_more : (until : Option ℕ) (n m : ℕ) (p : Play) → n ≡ suc m → steps_of until n p ≡ steps_after until p (turn_of p) (λ q. steps_of until m q)
unfolding steps_of
one_more until n m p e = ap (λ k. steps_of until k p) e

no_more : (until : Option ℕ) (n : ℕ) (p : Play) → n ≡ 0 → steps_of until n p ≡ []
unfolding steps_of
no_more until n p e = ap (λ k. steps_of until k p) e

may_all : (over over2 : Bool) (told2 rest : List ℕ) → EndsOnce over over2 told2 → MayCome over2 rest → MayCome over (told2 ++ rest)
may_all over over2 told2 rest once may is =
    let ends = once is in ap (λ l. l ++ rest) ends.0 ∙ may ends.1

pub all_made : (until : Option ℕ) (limit : ℕ) (s : Session) (first : Known) (told : List ℕ) (over : Bool) (steps : ℕ) (t : Session) (memo : Known)
    (done : List Made) → StepsOn until limit s first told over steps t memo done → limit ≤ steps
    → (rest : List ℕ) → MayCome over rest → steps_of until limit (play_at s first (told ++ rest)) ≡ done
all_made until limit s first told over steps t memo done h full rest may =
    h.are rest may ∙ ap (λ (l : List Made). done ++ l) (no_more until (limit - steps) (play_at t memo rest) (omega (arith, full))) ∙ append-nil done

-- With one turn more.
module _ (until : Option ℕ) (limit : ℕ) (s : Session) (first : Known) (told : List ℕ) (over : Bool) (steps : ℕ) (t : Session) (memo : Known) (done : List Made)
    (h : StepsOn until limit s first told over steps t memo done) (room : steps < limit)
    (told2 : List ℕ) (over2 : Bool) (u : Session) (memo2 : Known) (once : EndsOnce over over2 told2) where
  abbrev made : Made
  made = record { before = t.current; given = told2; after = u.current }

  abbrev next : Play → Turn → List Made
  next p x = steps_after until p x (λ q. steps_of until (limit - (steps + 1)) q)

  one_turn : (ending : Option Ending) → TurnsTo t memo told2 over2 ending u memo2 → (rest : List ℕ) → MayCome over2 rest
      → steps_of until limit (play_at s first ((told ++ told2) ++ rest)) ≡ done ++ next (play_at t memo (told2 ++ rest)) (turn_to ending u memo2 rest)
  one_turn ending turn rest may =
      let less : limit - steps ≡ suc (limit - (steps + 1)) = omega arith in
      ap (λ l. steps_of until limit (play_at s first l)) (append_assoc told told2 rest)
      ∙ h.are (told2 ++ rest) (may_all over over2 told2 rest once may)
      ∙ ap (λ (l : List Made). done ++ l) (one_more until (limit - steps) (limit - (steps + 1)) (play_at t memo (told2 ++ rest)) less)
      ∙ ap (λ (x : Turn). done ++ next (play_at t memo (told2 ++ rest)) x) (turn rest may)

  -- the step of the turn
  is_made : TurnsTo t memo told2 over2 None u memo2 → (rest : List ℕ) → MayCome over2 rest
      → made_in (play_at t memo (told2 ++ rest)) (turn_to None u memo2 rest) ≡ made
  is_made turn rest may = ap (λ (l : List ℕ). record { before = t.current; given = l; after = u.current })
      (turn_line t u memo memo2 told2 rest None (turn rest may))

  pub made_on : TurnsTo t memo told2 over2 None u memo2 → is_at until u.current ≡ false
      → StepsOn until limit s first (told ++ told2) over2 (steps + 1) u memo2 (done ++ made ∷ [])
  made_on turn off = record {
    are = λ rest may.
        let later = steps_of until (limit - (steps + 1)) (play_at u memo2 rest) in
        one_turn None turn rest may
        ∙ ap (λ (b : Bool). done ++ made_in (play_at t memo (told2 ++ rest)) (turn_to None u memo2 rest) ∷ cond b [] later) off
        ∙ ap (λ (m : Made). done ++ m ∷ later) (is_made turn rest may)
        ∙ sym (append_assoc done (made ∷ []) later);
  }

  pub made_at : TurnsTo t memo told2 over2 None u memo2 → is_at until u.current ≡ true → (rest : List ℕ) → MayCome over2 rest
      → steps_of until limit (play_at s first ((told ++ told2) ++ rest)) ≡ done ++ made ∷ []
  made_at turn on rest may =
      let later = steps_of until (limit - (steps + 1)) (play_at u memo2 rest) in
      one_turn None turn rest may
      ∙ ap (λ (b : Bool). done ++ made_in (play_at t memo (told2 ++ rest)) (turn_to None u memo2 rest) ∷ cond b [] later) on
      ∙ ap (λ (m : Made). done ++ m ∷ []) (is_made turn rest may)

  pub made_before : (why : Ending) → TurnsTo t memo told2 over2 (Some why) u memo2 → (rest : List ℕ) → MayCome over2 rest
      → steps_of until limit (play_at s first ((told ++ told2) ++ rest)) ≡ done
  made_before why turn rest may = one_turn (Some why) turn rest may ∙ append-nil done
