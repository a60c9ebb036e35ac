-- Steps that are only counted: each is noted as `note` would, where no checkpoint is due and nothing is let go.
use Rattle.std.proofs.Common.{◌≡◌, ℕ, ◌+◌, ◌-◌, ◌%◌, ◌<◌, ◌≤◌, min, List, [], ◌∷◌, ◌++◌, length, replicate, take, refl, sym, ap, ◌∙◌, arith, length-append}
use Rattle.std.proofs.lemmas.List.{append_assoc, append-nil, length-replicate, replicate-append-replicate, take-replicate}
use Rattle.model.specs.State.{State}
use Rattle.model.specs.declared.event.Event.{Event}
use Rattle.model.specs.declared.event.Event.TheVariants.{Step}
use Rattle.model.specs.Checkpoint.{Checkpoint, checkpoint_of}
use Rattle.circular_buffer.specs.Buffer.{Buffer, buffer}
use Rattle.debugger.specs.Course.{IsQuiet, with_steps}
use Rattle.debugger.specs.Replay.{Follows, IsHistory}
use Rattle.debugger.specs.Trail.{HasRoom, IsNoted}
use Rattle.debugger.specs.declared.trail.Trail.{Trail}
use Rattle.debugger.proofs.Noting.{Pushed, LetGoIf, MarkedIf, due, noted, numbered, room_after}

abbrev pub record_of : Trail → Buffer Event → ℕ → Trail
record_of t events held = record { events = events; kept = t.kept; spare = t.spare; held = held; history = t.history }

pub long : (t : Trail) (p : ℕ) → length (with_steps t p).events.items ≡ length t.events.items + p
long t p = length-append t.events.items (replicate p Step) ∙ ap (λ n. length t.events.items + n) (length-replicate p Step)

least : (a b : ℕ) → a ≤ b → min (a + 0) b ≡ a
least a b h = grind arith

-- no steps after a trail
pub none_more : (t : Trail) → t.held ≤ t.history → with_steps t 0 ≡ t
none_more t h =
    let items = append-nil t.events.items in
    let held = least t.held t.history h in
    λ i. record { events = buffer (items i) t.events.capacity; kept = t.kept; spare = t.spare; held = held i; history = t.history }

more_held : (a p b : ℕ) → min (a + (p + 1)) b ≡ min (min (a + p) b + 1) b
more_held a p b = grind arith

one_more : (t : Trail) (p : ℕ) → Pushed (with_steps t p) (with_steps t (p + 1)) Step
one_more t p = record {
  events = ap (λ (xs : List Event). t.events.items ++ xs) (sym (replicate-append-replicate p 1 Step))
      ∙ sym (append_assoc t.events.items (replicate p Step) (Step ∷ []));
  capacity = refl;
  kept = refl;
  spare = refl;
  held = more_held t.held p t.history;
  history = refl;
}

few_more : (held p history len q : ℕ) → 0 < q → len + p + q < min (held + p) history + 1024 → len + (p + 1) < min (held + (p + 1)) history + 1024
few_more held p history len q some room = grind arith

nothing_let_go : (t : Trail) (p q : ℕ) → IsQuiet t p q → 0 < q → LetGoIf (with_steps t (p + 1)) (with_steps t (p + 1))
nothing_let_go t p q k some =
    let n = long t (p + 1) in
    let few = few_more t.held p t.history (length t.events.items) q some k.room in
    record { few = λ h. refl; many = λ h. absurd (omega arith) }

nothing_marked : (t : Trail) (p q : ℕ) (c : Checkpoint) → IsQuiet t p q → 0 < q → MarkedIf (with_steps t (p + 1)) (with_steps t (p + 1)) c
nothing_marked t p q c k some =
    let n = long t (p + 1) in
    let part = k.part in
    record { none = λ h. refl; one = λ h. absurd (omega arith) }

quieter_room : (held p history len q : ℕ) → 0 < q → len + p + q < min (held + p) history + 1024 → len + (p + 1) + (q - 1) < min (held + (p + 1)) history + 1024
quieter_room held p history len q some room = grind arith

pub quieter : (t : Trail) (p q : ℕ) → IsQuiet t p q → 0 < q → IsQuiet t (p + 1) (q - 1)
quieter t p q k some = record {
  few = omega (arith, k.few);
  size = k.size;
  held = k.held;
  part = omega (arith, k.part);
  room = quieter_room t.held p t.history (length t.events.items) q some k.room;
  capacity = k.capacity;
}

pub room_then : (t : Trail) (p q : ℕ) (now : State) → HasRoom (with_steps t p) → IsQuiet t p q → 0 < q → HasRoom (with_steps t (p + 1))
room_then t p q now r k some =
    let t0 = with_steps t p in
    let t1 = with_steps t (p + 1) in
    room_after t1 t1 (checkpoint_of now) (due t0 t1 t1 Step r (one_more t p) (nothing_let_go t p q k some)) (nothing_marked t p q (checkpoint_of now) k some)

pub noted_then : (t : Trail) (p q : ℕ) (s now : State) → HasRoom (with_steps t p) → IsQuiet t p q → 0 < q
    → IsHistory 1024 (with_steps t p).kept.items (with_steps t p).events.items s → Follows s Step now → IsNoted (with_steps t p) (with_steps t (p + 1)) s now
noted_then t p q s now r k some h f =
    let t0 = with_steps t p in
    let t1 = with_steps t (p + 1) in
    noted t0 t1 t1 t1 Step s now r (one_more t p) (nothing_let_go t p q k some) (nothing_marked t p q (checkpoint_of now) k some) h f

pub number_then : (t : Trail) (p q : ℕ) (now : State) → HasRoom (with_steps t p) → IsQuiet t p q → 0 < q
    → length (with_steps t (p + 1)).events.items % 1024 ≡ (length (with_steps t p).events.items % 1024 + 1) % 1024
number_then t p q now r k some =
    let t0 = with_steps t p in
    let t1 = with_steps t (p + 1) in
    numbered t0 t1 t1 t1 Step (checkpoint_of now) r (one_more t p) (nothing_let_go t p q k some) (nothing_marked t p q (checkpoint_of now) k some)

-- a trail that has room is quiet for so many steps
pub quiet_now : (t : Trail) (more : ℕ) → HasRoom t → length t.events.items % 1024 + more < 1024 → length t.events.items + more < t.held + 1024
    → IsQuiet t 0 more
quiet_now t more r part room = record {
  few = omega (arith, part);
  size = r.history;
  held = r.held;
  part = omega (arith, part);
  room = quiet_room t.held t.history (length t.events.items) more r.held room;
  capacity = r.event_room;
}
  where
    quiet_room : (held history len more : ℕ) → held ≤ history → len + more < held + 1024 → len + 0 + more < min (held + 0) history + 1024
    quiet_room held history len more h room = grind arith

-- a trail with its steps noted is as quiet
pub quiet_here : (t : Trail) (p q : ℕ) → IsQuiet t p q → IsQuiet (with_steps t p) 0 q
quiet_here t p q k =
    let n = long t p in
    record {
      few = omega (arith, k.few);
      size = k.size;
      held = held_within (t.held + p) t.history;
      part = omega (arith, n, k.part);
      room = room_here (length (with_steps t p).events.items) (length t.events.items + p) (t.held + p) t.history q n k.room;
      capacity = k.capacity;
    }
  where
    held_within : (held history : ℕ) → min held history ≤ history
    held_within held history = grind arith

    room_here : (l len held history q : ℕ) → l ≡ len → len + q < min held history + 1024 → l + 0 + q < min (min held history + 0) history + 1024
    room_here l len held history q same room = grind arith

-- some steps put after the others at once
pub settled : (t : Trail) (steps count held : ℕ) (given : List Event) (events : Buffer Event) → given ≡ replicate steps Step
    → length t.events.items + steps ≤ t.events.capacity
    → count ≡ min (length given) (t.events.capacity - length t.events.items) → events ≡ buffer (t.events.items ++ take count given) t.events.capacity
    → held ≡ min (t.held + steps) t.history
    → record_of t events held ≡ with_steps t steps
settled t steps count held given events is room n all more =
    let size : length given ≡ steps = ap length is ∙ length-replicate steps Step in
    let whole : count ≡ steps = n ∙ all_of (length given) steps t.events.capacity (length t.events.items) size room in
    let taken : take count given ≡ replicate steps Step = ap (λ k. take k given) whole ∙ ap (take steps) is ∙ take-replicate steps steps Step (omega arith) in
    let last = all ∙ ap (λ xs. buffer (t.events.items ++ xs) t.events.capacity) taken in
    λ i. record { events = last i; kept = t.kept; spare = t.spare; held = more i; history = t.history }
  where
    all_of : (g s c l : ℕ) → g ≡ s → l + s ≤ c → min g (c - l) ≡ s
    all_of g s c l e h = grind arith
