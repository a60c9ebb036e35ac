-- Checkpoints along events.
use Rattle.std.proofs.Common.{◌≡◌, ℕ, ◌+◌, ◌-◌, ◌*◌, ◌≤◌, zero, suc, List, [], ◌∷◌, ◌++◌, length, take, drop, Some, refl, sym, ap, ◌∙◌, subst, arith, length-drop}
use Rattle.std.specs.Prelude.{slice_get}
use Rattle.std.proofs.lemmas.List.{take-append-le, drop-append-le, take-take, take_all, drop-take, length-take-le}
use Rattle.model.specs.State.{State}
use Rattle.model.specs.declared.event.Event.{Event}
use Rattle.model.specs.Checkpoint.{Checkpoint, checkpoint_of, state_at, CanPutBack, saved_of, bus_at}
use Rattle.debugger.specs.Replay.{state_after, Grows, AllFollow, LeadsBack, AllLeadBack}
use Rattle.debugger.proofs.Replays.{state_after-split, grows_along, AllFollow-take, AllFollow-drop}

cut_alike : (n : ℕ) (xs ys : List ℕ) → n ≤ length xs → take (length xs) ys ≡ xs → take n ys ≡ take n xs
cut_alike n xs ys h e = sym (take-take n (length xs) ys h) ∙ ap (take n) e

-- a checkpoint leads from a state that has grown to where it led from before
state_at-grown : (c : Checkpoint) (s t : State) → c.bus.given_len ≤ length s.bus.given → c.bus.out_len ≤ length s.bus.out → Grows s t
    → state_at c t ≡ state_at c s
unfolding state_at bus_at
state_at-grown c s t given out grows =
    let g = cut_alike c.bus.given_len s.bus.given t.bus.given given grows.given in
    let o = cut_alike c.bus.out_len s.bus.out t.bus.out out grows.out in
    λ i. record {
      bus = record { map = grows.map i; memory = c.bus.memory; given = g i; taken = c.bus.taken; out = o i; control = c.bus.control };
      regs = c.regs;
      irq = c.irq;
      nmi = c.nmi;
      cycles = c.cycles;
    }

-- from a later state a checkpoint leads to the same
pub leads-later : (c : Checkpoint) (s t then : State) → LeadsBack c s then → Grows s t → LeadsBack c t then
leads-later c s t then h grows = record {
  fits = record {
    map = h.fits.map ∙ ap Some (sym grows.map);
    given = omega (arith, h.fits.given, grows.given_len);
    out = omega (arith, h.fits.out, grows.out_len);
  };
  back = state_at-grown c s t h.fits.given h.fits.out grows ∙ h.back;
}

length-state_at : (c : Checkpoint) (now : State) → CanPutBack c.bus now.bus → (length (state_at c now).bus.given ≡ c.bus.given_len)
    × (length (state_at c now).bus.out ≡ c.bus.out_len)
unfolding state_at bus_at
length-state_at c now fits = (length-take-le c.bus.given_len now.bus.given fits.given, length-take-le c.bus.out_len now.bus.out fits.out)

-- from a state between the one that a checkpoint leads to and a later one it leads to the same
pub leads-between : (c : Checkpoint) (now t then : State) → LeadsBack c now then → Grows then t → Grows t now → LeadsBack c t then
leads-between c now t then h below above =
    let long = length-state_at c now h.fits in
    let g : length then.bus.given ≡ c.bus.given_len = ap (λ (x : State). length x.bus.given) (sym h.back) ∙ long.0 in
    let o : length then.bus.out ≡ c.bus.out_len = ap (λ (x : State). length x.bus.out) (sym h.back) ∙ long.1 in
    let given : c.bus.given_len ≤ length t.bus.given = omega (arith, below.given_len) in
    let out : c.bus.out_len ≤ length t.bus.out = omega (arith, below.out_len) in
    record {
      fits = record { map = h.fits.map ∙ ap Some above.map; given = given; out = out };
      back = sym (state_at-grown c t now given out above) ∙ h.back;
    }

-- a state's own checkpoint
pub leads-here : (s : State) → LeadsBack (checkpoint_of s) s s
unfolding checkpoint_of saved_of state_at bus_at
leads-here s =
    let g = take_all (length s.bus.given) s.bus.given (omega arith) in
    let o = take_all (length s.bus.out) s.bus.out (omega arith) in
    record {
      fits = record { map = refl; given = omega arith; out = omega arith };
      back = λ i. record {
        bus = record { map = s.bus.map; memory = s.bus.memory; given = g i; taken = s.bus.taken; out = o i; control = s.bus.control };
        regs = s.regs;
        irq = s.irq;
        nmi = s.nmi;
        cycles = s.cycles;
      };
    }

-- ---- lists of checkpoints

pub marks-later : (p : ℕ) (cs : List Checkpoint) (base : State) (es : List Event) (s t : State) → Grows s t → AllLeadBack p cs base es s
    → AllLeadBack p cs base es t
marks-later p [] base es s t grows all = tt
marks-later p (c ∷ cs) base es s t grows all = (leads-later c s t base all.0 grows, marks-later p cs (state_after base (take p es)) (drop p es) s t grows all.1)

-- one more event after those that the checkpoints mark
pub marks-more : (p : ℕ) (cs : List Checkpoint) (base : State) (es : List Event) (e : Event) (now : State) → p * length cs ≤ length es + p
    → AllLeadBack p cs base es now → AllLeadBack p cs base (es ++ e ∷ []) now
marks-more p [] base es e now h all = tt
marks-more p (c ∷ []) base es e now h all = (all.0, tt)
marks-more p (c ∷ d ∷ cs) base es e now h all =
    let m : p * length (c ∷ d ∷ cs) ≡ p * length (d ∷ cs) + p = times p (length (d ∷ cs)) in
    let k : p * length (d ∷ cs) ≡ p * length cs + p = times p (length cs) in
    let room : p ≤ length es = omega arith in
    let rest : p * length (d ∷ cs) ≤ length (drop p es) + p = omega (arith, length-drop p es) in
    let more = marks-more p (d ∷ cs) (state_after base (take p es)) (drop p es) e now rest all.1 in (
      all.0,
      subst (λ l. AllLeadBack p (d ∷ cs) (state_after base l) (drop p (es ++ e ∷ [])) now) (sym (take-append-le p es (e ∷ []) room))
          (subst (λ l. AllLeadBack p (d ∷ cs) (state_after base (take p es)) l now) (sym (drop-append-le p es (e ∷ []) room)) more),
    )
  where
    times : (a b : ℕ) → a * suc b ≡ a * b + a
    times a b = grind arith

-- one more checkpoint, at the current state
pub marks-push : (p : ℕ) (cs : List Checkpoint) (base : State) (es : List Event) (c : Checkpoint) (now : State) → p * length cs ≡ length es
    → LeadsBack c now (state_after base es) → AllLeadBack p cs base es now → AllLeadBack p (cs ++ c ∷ []) base es now
marks-push p [] base [] c now h leads all = (leads, tt)
marks-push p [] base (e ∷ es) c now h leads all = absurd (omega arith)
marks-push p (d ∷ cs) base es c now h leads all =
    let m : p * length (d ∷ cs) ≡ p * length cs + p = times p (length cs) in
    let rest : p * length cs ≡ length (drop p es) = omega (arith, length-drop p es) in
    (all.0, marks-push p cs (state_after base (take p es)) (drop p es) c now rest (subst (LeadsBack c now) (sym (state_after-split p base es)) leads) all.1)
  where
    times : (a b : ℕ) → a * suc b ≡ a * b + a
    times a b = grind arith

pub marks-take : (k p : ℕ) (cs : List Checkpoint) (base : State) (es : List Event) (now : State) → AllLeadBack p cs base es now
    → AllLeadBack p (take k cs) base es now
marks-take zero p cs base es now all = tt
marks-take (suc k) p [] base es now all = tt
marks-take (suc k) p (c ∷ cs) base es now all = (all.0, marks-take k p cs (state_after base (take p es)) (drop p es) now all.1)

-- what a checkpoint leads to
pub mark_at : (i p : ℕ) (cs : List Checkpoint) (base : State) (es : List Event) (now : State) (c : Checkpoint) → slice_get cs i ≡ Some c
    → AllLeadBack p cs base es now → LeadsBack c now (state_after base (take (p * i) es))
mark_at i p [] base es now c h all = cc
mark_at zero p (d ∷ cs) base es now c h all =
    let same : d ≡ c = cc in
    let z : 0 ≡ p * 0 = omega arith in
    subst (λ m. LeadsBack c now (state_after base (take m es))) z (subst (λ (x : Checkpoint). LeadsBack x now base) same all.0)
mark_at (suc i) p (d ∷ cs) base es now c h all =
    let m : p * suc i ≡ p + p * i = times p i in
    let rest = mark_at i p cs (state_after base (take p es)) (drop p es) now c h all.1 in
    let joined : state_after (state_after base (take p es)) (take (p * i) (drop p es)) ≡ state_after base (take (p * suc i) es) =
    ap (λ l. state_after (state_after base l) (take (p * i) (drop p es))) (sym (take-take p (p + p * i) es (omega arith)))
    ∙ ap (state_after (state_after base (take p (take (p + p * i) es)))) (sym (drop-take p (p * i) es))
    ∙ state_after-split p base (take (p + p * i) es) ∙ ap (λ n. state_after base (take n es)) (sym m) in
    subst (LeadsBack c now) joined rest
  where
    times : (a b : ℕ) → a * suc b ≡ a + a * b
    times a b = grind arith

-- one checkpoint, seen from an earlier state that is not before the one that it leads to
back_one : (n : ℕ) (c : Checkpoint) (base : State) (es : List Event) (now t : State) → AllFollow base es → state_after base es ≡ now
    → state_after base (take n es) ≡ t → LeadsBack c now base → LeadsBack c t base
back_one n c base es now t all whole part leads =
    let below : Grows base t = subst (Grows base) part (grows_along base (take n es) (AllFollow-take n base es all)) in
    let above : Grows t now = subst (Grows t) (ap (λ (x : State). state_after x (drop n es)) (sym part) ∙ state_after-split n base es ∙ whole)
    (grows_along t (drop n es) (subst (λ (x : State). AllFollow x (drop n es)) part (AllFollow-drop n base es all))) in
    leads-between c now t base leads below above

-- the checkpoints up to an earlier state, seen from there
pub marks-back : (p n : ℕ) (cs : List Checkpoint) (base : State) (es : List Event) (now t : State) → p * length cs ≤ n + p → n ≤ length es
    → AllFollow base es → state_after base es ≡ now → state_after base (take n es) ≡ t
    → AllLeadBack p cs base es now → AllLeadBack p cs base (take n es) t
marks-back p n [] base es now t h k all whole part marks = tt
marks-back p n (c ∷ []) base es now t h k all whole part marks = (back_one n c base es now t all whole part marks.0, tt)
marks-back p n (c ∷ d ∷ ds) base es now t h k all whole part marks =
    let m : p * length (c ∷ d ∷ ds) ≡ p * length (d ∷ ds) + p = times p (length (d ∷ ds)) in
    let l : p * length (d ∷ ds) ≡ p * length ds + p = times p (length ds) in
    let room : p ≤ n = omega arith in
    let q : n ≡ p + (n - p) = omega arith in
    let front : take p (take n es) ≡ take p es = take-take p n es room in
    let back : drop p (take n es) ≡ take (n - p) (drop p es) = ap (λ x. drop p (take x es)) q ∙ drop-take p (n - p) es in
    let there : state_after (state_after base (take p es)) (take (n - p) (drop p es)) ≡ t =
    ap (λ x. state_after (state_after base x) (take (n - p) (drop p es))) (sym front)
    ∙ ap (state_after (state_after base (take p (take n es)))) (sym back) ∙ state_after-split p base (take n es) ∙ part in (
      back_one n c base es now t all whole part marks.0,
      subst (λ x. AllLeadBack p (d ∷ ds) (state_after base x) (drop p (take n es)) t) (sym front)
          (subst (λ x. AllLeadBack p (d ∷ ds) (state_after base (take p es)) x t) (sym back)
          (marks-back p (n - p) (d ∷ ds) (state_after base (take p es)) (drop p es) now t (omega arith) (omega (arith, length-drop p es))
          (AllFollow-drop p base es all) (state_after-split p base es ∙ whole) there marks.1)),
    )
  where
    times : (a b : ℕ) → a * suc b ≡ a * b + a
    times a b = grind arith
