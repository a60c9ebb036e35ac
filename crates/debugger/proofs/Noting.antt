-- A trail on which an event is noted, step by step.
use Rattle.std.proofs.Common.{◌≡◌, ℕ, ◌+◌, ◌-◌, ◌*◌, ◌/◌, ◌%◌, ◌<◌, ◌≤◌, min, List, [], ◌∷◌, ◌++◌, length, drop, refl, sym, ap, ◌∙◌, subst, arith, length-append, length-drop, inl, inr, ◌⊎◌}
use Rattle.model.specs.State.{State}
use Rattle.model.specs.Session.{keep_last}
use Rattle.model.specs.declared.event.Event.{Event}
use Rattle.model.specs.Checkpoint.{Checkpoint, checkpoint_of}
use Rattle.debugger.specs.Replay.{Follows, IsHistory, held_states}
use Rattle.debugger.specs.Trail.{HasRoom, IsNoted, DropsOldest, SavesCheckpoint}
use Rattle.debugger.specs.declared.trail.Trail.{Trail}
use Rattle.circular_buffer.specs.Buffer as ring
use Rattle.debugger.proofs.Checkpoints.{leads-here}
use Rattle.debugger.proofs.Trails.{after_event, without_part, with_mark}

-- an event stands after the others, and one more is held
pub record Pushed (old new : Trail) (e : Event) : Type 0 where
  pub events : new.events.items ≡ old.events.items ++ e ∷ []
  pub capacity : new.events.capacity ≡ old.events.capacity
  pub kept : new.kept ≡ old.kept
  pub spare : new.spare ≡ old.spare
  pub held : new.held ≡ min (old.held + 1) old.history
  pub history : new.history ≡ old.history

-- the oldest part is let go where it can be
pub record LetGoIf (old new : Trail) : Type 0 where
  pub few : length old.events.items < old.held + 1024 → new ≡ old
  pub many : old.held + 1024 ≤ length old.events.items → DropsOldest old new

pub record MarkedIf (old new : Trail) (c : Checkpoint) : Type 0 where
  pub none : 0 < length old.events.items % 1024 → new ≡ old
  pub one : length old.events.items % 1024 ≡ 0 → SavesCheckpoint old new c

-- how much of a trail there is before a checkpoint that may be due
pub record IsDue (t : Trail) : Type 0 where
  pub history : t.history ≤ 1048576
  pub held : t.held ≤ t.history
  pub few : t.held ≤ length t.events.items
  pub recent : length t.events.items < t.held + 1024
  pub count : 1024 * length t.kept.items < length t.events.items + 1024
  pub whole : length t.events.items ≤ 1024 * length t.kept.items
  pub pool : length t.kept.items + length t.spare.items ≡ t.history / 1024 + 2
  pub kept_room : t.kept.capacity ≡ t.history / 1024 + 2
  pub spare_room : t.spare.capacity ≡ t.history / 1024 + 2
  pub event_room : t.events.capacity ≡ t.history + 1024

few_or_many : (a b : ℕ) → (a < b) ⊎ (b ≤ a)
few_or_many a b = grind arith

length-pushed : (old new : Trail) (e : Event) → Pushed old new e → length new.events.items ≡ length old.events.items + 1
length-pushed old new e p = ap length p.events ∙ length-append old.events.items (e ∷ [])

due_few : (t0 t1 : Trail) (e : Event) → HasRoom t0 → Pushed t0 t1 e → length t1.events.items < t1.held + 1024 → IsDue t1
due_few t0 t1 e r p h =
    let long = length-pushed t0 t1 e p in
    let kept = ap (λ b. length b.items) p.kept in
    let spare = ap (λ b. length b.items) p.spare in
    record {
      history = omega (arith, r.history, p.history);
      held = omega (arith, p.held, p.history);
      few = omega (arith, p.held, r.few);
      recent = h;
      count = omega (arith, r.count);
      whole = omega (arith, r.count);
      pool = kept_and_spare t0 t1 kept spare ∙ r.pool ∙ ap (λ n. n / 1024 + 2) (sym p.history);
      kept_room = ap (λ b. b.capacity) p.kept ∙ r.kept_room ∙ ap (λ n. n / 1024 + 2) (sym p.history);
      spare_room = ap (λ b. b.capacity) p.spare ∙ r.spare_room ∙ ap (λ n. n / 1024 + 2) (sym p.history);
      event_room = p.capacity ∙ r.event_room ∙ ap (λ n. n + 1024) (sym p.history);
    }
  where
    kept_and_spare : (t0 t1 : Trail) → length t1.kept.items ≡ length t0.kept.items → length t1.spare.items ≡ length t0.spare.items
        → length t1.kept.items + length t1.spare.items ≡ length t0.kept.items + length t0.spare.items
    kept_and_spare t0 t1 a b = omega arith

due_many : (t0 t1 t2 : Trail) (e : Event) → HasRoom t0 → Pushed t0 t1 e → t1.held + 1024 ≤ length t1.events.items → DropsOldest t1 t2 → IsDue t2
due_many t0 t1 t2 e r p h g =
    let long = length-pushed t0 t1 e p in
    let events : length t2.events.items ≡ length t1.events.items - 1024 = ap length g.events ∙ length-drop 1024 t1.events.items in
    let k1 : length t1.kept.items ≡ length t0.kept.items = ap (λ b. length b.items) p.kept in
    let s1 : length t1.spare.items ≡ length t0.spare.items = ap (λ b. length b.items) p.spare in
    let kept : length t2.kept.items ≡ length t1.kept.items - 1 = ap length g.kept ∙ length-drop 1 t1.kept.items in
    let size = g.room.history ∙ p.history in
    record {
      history = omega (arith, r.history, size);
      held = omega (arith, p.held, size, g.room.held);
      few = omega (arith, g.room.held);
      recent = omega (arith, g.room.held, p.held, r.recent);
      count = omega (arith, r.count);
      whole = omega (arith, r.count);
      pool = omega (arith, g.spare, r.pool, r.count, size);
      kept_room = g.room.kept ∙ ap (λ b. b.capacity) p.kept ∙ r.kept_room ∙ ap (λ n. n / 1024 + 2) (sym size);
      spare_room = g.room.spare ∙ ap (λ b. b.capacity) p.spare ∙ r.spare_room ∙ ap (λ n. n / 1024 + 2) (sym size);
      event_room = g.room.events ∙ p.capacity ∙ r.event_room ∙ ap (λ n. n + 1024) (sym size);
    }

pub due : (t0 t1 t2 : Trail) (e : Event) → HasRoom t0 → Pushed t0 t1 e → LetGoIf t1 t2 → IsDue t2
due t0 t1 t2 e r p g = elim (few_or_many (length t1.events.items) (t1.held + 1024)) [
  | inl h ↦ subst IsDue (sym (g.few h)) (due_few t0 t1 e r p h)
  | inr h ↦ due_many t0 t1 t2 e r p h (g.many h)
]

pub due_spare : (t : Trail) → IsDue t → length t.events.items % 1024 ≡ 0 → 0 < length t.spare.items
due_spare t d h = omega (arith, d.count, d.pool, d.recent, d.held)

pub due_room : (t : Trail) → IsDue t → length t.events.items % 1024 ≡ 0 → length t.kept.items < t.kept.capacity
due_room t d h = omega (arith, d.count, d.kept_room, d.recent, d.held)

none_or_some : (n : ℕ) → (0 < n) ⊎ (n ≡ 0)
none_or_some n = grind arith

room_none : (t : Trail) → IsDue t → 0 < length t.events.items % 1024 → HasRoom t
room_none t d h = record {
  history = d.history;
  held = d.held;
  few = d.few;
  recent = d.recent;
  count = omega (arith, d.count, d.whole);
  pool = d.pool;
  kept_room = d.kept_room;
  spare_room = d.spare_room;
  event_room = d.event_room;
}

room_one : (t u : Trail) (c : Checkpoint) → IsDue t → length t.events.items % 1024 ≡ 0 → SavesCheckpoint t u c → HasRoom u
room_one t u c d h m =
    let size = m.room.history in
    let events : length u.events.items ≡ length t.events.items = ap length m.events in
    let kept : length u.kept.items ≡ length t.kept.items + 1 = ap length m.kept ∙ length-append t.kept.items (c ∷ []) in
    record {
      history = omega (arith, d.history, size);
      held = omega (arith, d.held, size, m.room.held);
      few = omega (arith, d.few, m.room.held);
      recent = omega (arith, d.recent, m.room.held);
      count = omega (arith, d.count, d.whole);
      pool = omega (arith, d.pool, m.spare, size);
      kept_room = m.room.kept ∙ d.kept_room ∙ ap (λ n. n / 1024 + 2) (sym size);
      spare_room = m.room.spare ∙ d.spare_room ∙ ap (λ n. n / 1024 + 2) (sym size);
      event_room = m.room.events ∙ d.event_room ∙ ap (λ n. n + 1024) (sym size);
    }

pub room_after : (t u : Trail) (c : Checkpoint) → IsDue t → MarkedIf t u c → HasRoom u
room_after t u c d m = elim (none_or_some (length t.events.items % 1024)) [
  | inl h ↦ subst HasRoom (sym (m.none h)) (room_none t d h)
  | inr h ↦ room_one t u c d h (m.one h)
]

-- ---- what the trail says

-- a trail is the history of a state, and holds these states
pub record Tells (t : Trail) (now : State) (all : List State) : Type 0 where
  pub history : IsHistory 1024 t.kept.items t.events.items now
  pub states : held_states t.held t.kept.items t.events.items now ≡ all

tells_pushed : (t0 t1 : Trail) (e : Event) (s t : State) → HasRoom t0 → Pushed t0 t1 e → IsHistory 1024 t0.kept.items t0.events.items s → Follows s e t
    → Tells t1 t (keep_last t0.history (held_states t0.held t0.kept.items t0.events.items s ++ s ∷ []))
tells_pushed t0 t1 e s t r p h f =
    let some : 0 < length t0.kept.items = omega (arith, r.count) in
    let room : 1024 * length t0.kept.items ≤ length t0.events.items + 1024 = omega (arith, r.count) in
    let a = after_event 1024 t0.kept.items t0.events.items e s t some room h f in
    let kept = ap (λ b. b.items) p.kept in
    record {
      history = subst (λ x. IsHistory 1024 x t1.events.items t) (sym kept) (subst (λ x. IsHistory 1024 t0.kept.items x t) (sym p.events) a.history);
      states = ap (λ n. held_states n t1.kept.items t1.events.items t) p.held ∙ ap (λ x. held_states (min (t0.held + 1) t0.history) x t1.events.items t) kept
          ∙ ap (λ x. held_states (min (t0.held + 1) t0.history) t0.kept.items x t) p.events ∙ a.states t0.held t0.history r.held r.few;
    }

tells_many : (t0 t1 t2 : Trail) (e : Event) (now : State) (all : List State) → HasRoom t0 → Pushed t0 t1 e → t1.held + 1024 ≤ length t1.events.items
    → DropsOldest t1 t2 → Tells t1 now all → Tells t2 now all
tells_many t0 t1 t2 e now all r p h g told =
    let long = length-pushed t0 t1 e p in
    let k1 : length t1.kept.items ≡ length t0.kept.items = ap (λ b. length b.items) p.kept in
    let some : 0 < length t1.kept.items = omega (arith, r.count) in
    let w = without_part 1024 t1.kept.items t1.events.items now some (λ one. omega (arith, r.count)) told.history in
    record {
      history = subst (λ x. IsHistory 1024 x t2.events.items now) (sym g.kept)
          (subst (λ x. IsHistory 1024 (drop 1 t1.kept.items) x now) (sym g.events) w.history);
      states = ap (λ n. held_states n t2.kept.items t2.events.items now) g.room.held ∙ ap (λ x. held_states t1.held x t2.events.items now) g.kept
          ∙ ap (λ x. held_states t1.held (drop 1 t1.kept.items) x now) g.events ∙ w.states t1.held h ∙ told.states;
    }

tells_one : (t u : Trail) (now : State) (all : List State) → IsDue t → length t.events.items % 1024 ≡ 0 → SavesCheckpoint t u (checkpoint_of now)
    → Tells t now all → Tells u now all
tells_one t u now all d h m told =
    let room : 1024 * length t.kept.items ≡ length t.events.items = omega (arith, d.count, d.whole) in
    let w = with_mark 1024 t.kept.items (checkpoint_of now) t.events.items now room (leads-here now) told.history in
    record {
      history = subst (λ x. IsHistory 1024 x u.events.items now) (sym m.kept)
          (subst (λ x. IsHistory 1024 (t.kept.items ++ checkpoint_of now ∷ []) x now) (sym m.events) w.history);
      states = ap (λ n. held_states n u.kept.items u.events.items now) m.room.held ∙ ap (λ x. held_states t.held x u.events.items now) m.kept
          ∙ ap (λ x. held_states t.held (t.kept.items ++ checkpoint_of now ∷ []) x now) m.events ∙ w.states t.held ∙ told.states;
    }

pub noted : (t0 t1 t2 t3 : Trail) (e : Event) (s now : State) → HasRoom t0 → Pushed t0 t1 e → LetGoIf t1 t2 → MarkedIf t2 t3 (checkpoint_of now)
    → IsHistory 1024 t0.kept.items t0.events.items s → Follows s e now → IsNoted t0 t3 s now
noted t0 t1 t2 t3 e s now r p g m h f =
    let all = keep_last t0.history (held_states t0.held t0.kept.items t0.events.items s ++ s ∷ []) in
    let first : Tells t1 now all = tells_pushed t0 t1 e s now r p h f in
    let d = due t0 t1 t2 e r p g in
    let second : Tells t2 now all = elim (few_or_many (length t1.events.items) (t1.held + 1024)) [
      | inl k ↦ subst (λ (t : Trail). Tells t now all) (sym (g.few k)) first
      | inr k ↦ tells_many t0 t1 t2 e now all r p k (g.many k) first
    ] in
    let third : Tells t3 now all = elim (none_or_some (length t2.events.items % 1024)) [
      | inl k ↦ subst (λ (t : Trail). Tells t now all) (sym (m.none k)) second
      | inr k ↦ tells_one t2 t3 now all d k (m.one k) second
    ] in
    record { history = third.history; states = third.states }

-- a ring with room takes an item after the others
pub kept_all : {X : Type 0} (n : ℕ) (xs : List X) (x : X) → length xs < n → ring.keep_last n (xs ++ x ∷ []) ≡ xs ++ x ∷ []
kept_all n xs x h = let z : length (xs ++ x ∷ []) - n ≡ 0 = omega (arith, length-append xs (x ∷ [])) in ap (λ k. drop k (xs ++ x ∷ [])) z

pub pushed : (t : Trail) (events : ring.Buffer Event) (held : ℕ) (e : Event) → HasRoom t
    → events ≡ ring.buffer (ring.keep_last t.events.capacity (t.events.items ++ e ∷ [])) t.events.capacity → held ≡ min (t.held + 1) t.history
    → Pushed t (record { events = events; kept = t.kept; spare = t.spare; held = held; history = t.history }) e
pushed t events held e r is more = record {
  events = ap (λ b. b.items) is ∙ kept_all t.events.capacity t.events.items e (omega (arith, r.recent, r.held, r.event_room));
  capacity = ap (λ b. b.capacity) is;
  kept = refl;
  spare = refl;
  held = more;
  history = refl;
}

-- the number of the current state
pub numbered : (t0 t1 t2 t3 : Trail) (e : Event) (c : Checkpoint) → HasRoom t0 → Pushed t0 t1 e → LetGoIf t1 t2 → MarkedIf t2 t3 c
    → length t3.events.items % 1024 ≡ (length t0.events.items % 1024 + 1) % 1024
numbered t0 t1 t2 t3 e c r p g m =
    let long = length-pushed t0 t1 e p in
    let marked : length t3.events.items ≡ length t2.events.items = elim (none_or_some (length t2.events.items % 1024)) [
      | inl k ↦ ap (λ (t : Trail). length t.events.items) (m.none k)
      | inr k ↦ ap length ((m.one k).events)
    ] in
    elim (few_or_many (length t1.events.items) (t1.held + 1024)) [
      | inl k ↦ (let same : length t2.events.items ≡ length t1.events.items = ap (λ (t : Trail). length t.events.items) (g.few k) in omega arith)
      | inr k ↦ (let less : length t2.events.items ≡ length t1.events.items - 1024 =
          ap length ((g.many k).events) ∙ length-drop 1024 t1.events.items in omega arith)
    ]
