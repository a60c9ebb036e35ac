-- The way back, event by event.
use Rattle.std.proofs.Common.{◌≡◌, ℕ, ◌+◌, ◌-◌, ◌<◌, ◌≤◌, suc, ◌∷◌, [], length, take, get_or, refl, sym, ap, ◌∙◌, arith, length-append, length-take}
use Rattle.std.proofs.lemmas.List.{get_or_at, get_or-take, take-take, take_all}
use Rattle.model.specs.Session.{Session}
use Rattle.model.specs.Back.{states, without_last}
use Rattle.law_sessions.proofs.Backs.{states-without_last}
use Rattle.line_steps.specs.Back.{gone_back, state_back}

pub gone-none : (s : Session) → s ≡ gone_back 0 s
unfolding gone_back
gone-none s = refl

pub gone-more : (k : ℕ) (s t u : Session) → t ≡ gone_back k s → u ≡ without_last 1 t → u ≡ gone_back (k + 1) s
unfolding gone_back
gone-more k s t u gone back = let more : suc k ≡ k + 1 = omega arith in back ∙ ap (without_last 1) gone ∙ ap (λ j. gone_back j s) more

-- ---- the states that are left

pub record IsBack (s t : Session) (k : ℕ) : Type 0 where
  pub gone : t ≡ gone_back k s
  pub held : length t.earlier + k ≡ length s.earlier
  pub left : states t ≡ take (length t.earlier + 1) (states s)

pub back_none : (s : Session) → IsBack s s 0
back_none s =
    let all : length s.earlier + 1 ≡ length (states s) = omega (arith, length-append s.earlier (s.current ∷ [])) in
    record { gone = gone-none s; held = omega arith; left = sym (take_all (length s.earlier + 1) (states s) (omega (arith, all))) }

length-without_last : (k : ℕ) (s : Session) → length (without_last k s).earlier ≡ length s.earlier - k
unfolding without_last
length-without_last k s = omega (arith, length-take (length s.earlier - k) s.earlier)

pub back_more : (s t u : Session) (k : ℕ) → IsBack s t k → 0 < length t.earlier → u ≡ without_last 1 t → IsBack s u (k + 1)
back_more s t u k is some back =
    let one : 1 ≤ length t.earlier = omega (arith, some) in
    let fewer : length u.earlier ≡ length t.earlier - 1 = ap (λ (x : Session). length x.earlier) back ∙ length-without_last 1 t in
    let same : (length t.earlier - 1) + 1 ≡ length u.earlier + 1 = omega (arith, fewer, some) in
    let within : length u.earlier + 1 ≤ length t.earlier + 1 = omega (arith, fewer) in
    record {
      gone = gone-more k s t u is.gone back;
      held = omega (arith, is.held, fewer);
      left = ap states back ∙ states-without_last 1 t one ∙ ap (λ n. take n (states t)) same
          ∙ ap (take (length u.earlier + 1)) is.left ∙ take-take (length u.earlier + 1) (length t.earlier + 1) (states s) within;
    }

-- the state reached is the one that was there
pub back_state : (s t : Session) (k : ℕ) → IsBack s t k → t.current ≡ state_back s k
back_state s t k is =
    let n = length t.earlier in
    let there : n ≡ length s.earlier - k = omega (arith, is.held) in
    let within : n < n + 1 = omega arith in
    sym (get_or_at t.earlier t.current [] s.current n refl)
    ∙ ap (λ l. get_or l n s.current) is.left
    ∙ get_or-take (n + 1) (states s) n s.current within
    ∙ ap (λ j. get_or (states s) j s.current) there
