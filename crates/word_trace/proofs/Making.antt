-- What the steps of a run make of something, one turn after another.
use Rattle.std.proofs.Common.{◌≡◌, ◌∙◌, ℕ, suc, ◌+◌, ◌-◌, ◌<◌, ◌≤◌, Bool, true, false, cond, List, [], ◌++◌, Option, Some, None, refl, sym, ap, subst, inl, arith, append_assoc, append-nil}
use Rattle.std.proofs.KnownBytes.{Consumes-nil}
use Rattle.std.specs.Io.KnownBytes.{Consumes}
use Rattle.std.proofs.Math.Nat.{sub-zero}
use Rattle.console.specs.Playing.{Play, Turn, is_at, turn_of}
use Rattle.console.specs.Turns.{EndsOnce, EndsWith, Known, MayCome, TurnsTo, known, play_at, turn_to}
use Rattle.console.specs.declared.turn.Player.{Player}
use Rattle.console.specs.declared.ending.Ending.{Ending}
use Rattle.model.specs.Session.{Session}
use Rattle.model.specs.State.{State}
use Rattle.word_trace.specs.Gathered.{Gathered, ahead_of, gathered, noted_here, text_of_step}
use Rattle.word_trace.specs.Texts.{Noted, TurnNoted, by_steps, by_turn, note_step, noted_in}
use Rattle.word_trace.specs.Traces.{Turned}
use Rattle.word_trace.specs.declared.notes.Ahead.{Ahead}
use Rattle.word_trace.specs.declared.tracer.Tracer.{Tracer}
use Rattle.word_trace.proofs.Going.{may_all}

-- So far: whatever comes after what was told, so many steps make one thing of another, and the rest
-- goes on with it.
pub record MakesOn {A : Type 0} (each : State → State → A → A) (until : Option ℕ) (limit : ℕ) (s : Session) (first : Known) (told : List ℕ)
    (over : Bool) (steps : ℕ) (t : Session) (memo : Known) (a b : A) : Type 0 where
  pub makes : (rest : List ℕ) → MayCome over rest → by_steps each until limit (play_at s first (told ++ rest)) a
      ≡ by_steps each until (limit - steps) (play_at t memo rest) b

pub makes_none : {A : Type 0} (each : State → State → A → A) (until : Option ℕ) (limit : ℕ) (s : Session) (first : Known) (over : Bool) (a : A)
    → MakesOn each until limit s first [] over 0 s first a a
makes_none each until limit s first over a = record {
  makes = λ rest may. ap (λ n. by_steps each until n (play_at s first rest) a) (sym (sub-zero limit));
}

made_turn : {A : Type 0} (each : State → State → A → A) (until : Option ℕ) (n m : ℕ) (p : Play) (a : A) → n ≡ suc m
    → by_steps each until n p a ≡ by_turn each until p.session.current (turn_of p) a (λ q b. by_steps each until m q b)
unfolding by_steps
made_turn each until n m p a e = ap (λ k. by_steps each until k p a) e

made_none : {A : Type 0} (each : State → State → A → A) (until : Option ℕ) (n : ℕ) (p : Play) (a : A) → n ≡ 0 → by_steps each until n p a ≡ a
unfolding by_steps
made_none each until n p a e = ap (λ k. by_steps each until k p a) e

pub makes_full : {A : Type 0} (each : State → State → A → A) (until : Option ℕ) (limit : ℕ) (s : Session) (first : Known) (told : List ℕ)
    (over : Bool) (steps : ℕ) (t : Session) (memo : Known) (a b : A)
    → MakesOn each until limit s first told over steps t memo a b → limit ≤ steps → (rest : List ℕ) → MayCome over rest
    → by_steps each until limit (play_at s first (told ++ rest)) a ≡ b
makes_full each until limit s first told over steps t memo a b h full rest may =
    h.makes rest may ∙ made_none each until (limit - steps) (play_at t memo rest) b (omega arith)

-- With one turn more.
module _ {A : Type 0} (each : State → State → A → A) (until : Option ℕ) (limit : ℕ) (s : Session) (first : Known) (told : List ℕ) (over : Bool)
    (steps : ℕ) (t : Session) (memo : Known) (a b : A)
    (h : MakesOn each until limit s first told over steps t memo a b) (room : steps < limit)
    (told2 : List ℕ) (over2 : Bool) (ending : Option Ending) (u : Session) (memo2 : Known) (once : EndsOnce over over2 told2)
    (turn : TurnsTo t memo told2 over2 ending u memo2) where
  abbrev next : Turn → A
  next x = by_turn each until t.current x b (λ q c. by_steps each until (limit - (steps + 1)) q c)

  one_turn : (rest : List ℕ) → MayCome over2 rest → by_steps each until limit (play_at s first ((told ++ told2) ++ rest)) a ≡ next (turn_to ending u memo2 rest)
  one_turn rest may =
      let less : limit - steps ≡ suc (limit - (steps + 1)) = omega arith in
      ap (λ l. by_steps each until limit (play_at s first l) a) (append_assoc told told2 rest)
      ∙ h.makes (told2 ++ rest) (may_all over over2 told2 rest once may)
      ∙ made_turn each until (limit - steps) (limit - (steps + 1)) (play_at t memo (told2 ++ rest)) b less
      ∙ ap next (turn rest may)

  pub noted_turn_made : (rest : List ℕ) → MayCome over2 rest
      → by_steps each until limit (play_at s first ((told ++ told2) ++ rest)) a
      ≡ by_turn each until t.current (turn_to ending u memo2 rest) b (λ q c. by_steps each until (limit - (steps + 1)) q c)
  noted_turn_made rest may = one_turn rest may

  pub makes_on : (c : A) → c ≡ each t.current u.current b → ending ≡ None → is_at until u.current ≡ false
      → MakesOn each until limit s first (told ++ told2) over2 (steps + 1) u memo2 a c
  makes_on c is none off = record {
    makes = λ rest may.
        one_turn rest may ∙ ap (λ e. next (turn_to e u memo2 rest)) none
        ∙ ap (λ x. cond x (each t.current u.current b) (by_steps each until (limit - (steps + 1)) (play_at u memo2 rest) (each t.current u.current b))) off
        ∙ ap (by_steps each until (limit - (steps + 1)) (play_at u memo2 rest)) (sym is);
  }

  pub makes_at : (c : A) → c ≡ each t.current u.current b → ending ≡ None → is_at until u.current ≡ true → (rest : List ℕ) → MayCome over2 rest
      → by_steps each until limit (play_at s first ((told ++ told2) ++ rest)) a ≡ c
  makes_at c is none on rest may =
      one_turn rest may ∙ ap (λ e. next (turn_to e u memo2 rest)) none
      ∙ ap (λ x. cond x (each t.current u.current b) (by_steps each until (limit - (steps + 1)) (play_at u memo2 rest) (each t.current u.current b))) on
      ∙ sym is

  pub makes_with : (why : Ending) → ending ≡ Some why → (rest : List ℕ) → MayCome over2 rest
      → by_steps each until limit (play_at s first ((told ++ told2) ++ rest)) a ≡ b
  makes_with why some rest may = one_turn rest may ∙ ap (λ e. next (turn_to e u memo2 rest)) some

-- A step that was noted.
pub turn_noted_on : (before after : State) (old new : Tracer) (text step : List ℕ) → TurnNoted None before after (gathered old) (gathered new) step
    → noted_in new (text ++ step) ≡ note_step before after (noted_in old text)
turn_noted_on before after old new text step is = ap (λ (n : Noted). record { gathered = n.gathered; text = text ++ n.text }) is

-- A turn as a step of it tells.
pub turned : (ending : Option Ending) (s : Session) (before : Player) (given left : Option (List ℕ)) (t : Session) (after : Player) (told : List ℕ)
    → Consumes given left told → EndsWith before.is_over after.is_over given left → EndsOnce before.is_over after.is_over told
    → TurnsTo s (known before) told after.is_over ending t (known after) → Turned ending s before given left t after told
turned ending s before given left t after told consumes over once turn = record { consumes = consumes; over = over; once = once; turn = turn }

pub turned_alone : (s : Session) (before : Player) (given : Option (List ℕ)) (t : Session) (after : Player) → after.is_over ≡ before.is_over
    → TurnsTo s (known before) [] after.is_over None t (known after) → Turned None s before given given t after []
turned_alone s before given t after over turn = record {
  consumes = Consumes-nil given;
  over = λ is. inl (sym over ∙ is, refl);
  once = λ is. (refl, over ∙ is);
  turn = turn;
}

pub turn_noted : (before after : State) (g h : Gathered) (ahead : Ahead) → ahead ≡ ahead_of g before → h ≡ noted_here after ahead g
    → TurnNoted None before after g h (text_of_step after ahead g)
turn_noted before after g h ahead is noted =
    let made : Ahead → Noted = λ x. record { gathered = noted_here after x g; text = text_of_step after x g } in
    ap (λ k. record { gathered = k; text = text_of_step after ahead g }) noted ∙ ap made is

pub turn_counted : (before after : State) (g h : Gathered) → h ≡ noted_here after (ahead_of g before) g
    → text_of_step after (ahead_of g before) g ≡ [] → TurnNoted None before after g h []
turn_counted before after g h noted none = λ i. record { gathered = noted i; text = sym none i }

-- What was not made changes nothing.
pub with_same : (P : Session → Player → Type 0) {s t : Session} {p q : Player} → s ≡ t → p ≡ q → P s p → P t q
with_same P {s} {t} {p} {q} is same told = subst (λ x. P t x) same (subst (λ x. P x p) is told)

-- A turn that ended the run.
pub ended_on : (why : Ending) (before after : State) (old new : Tracer) (text step : List ℕ)
    → TurnNoted (Some why) before after (gathered old) (gathered new) step → noted_in old text ≡ noted_in new (text ++ step)
ended_on why before after old new text step is =
    let same : text ≡ text ++ step = sym (ap (λ (xs : List ℕ). text ++ xs) is.1 ∙ append-nil text) in
    λ i. record { gathered = sym is.0 i; text = same i }
