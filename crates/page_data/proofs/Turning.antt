-- What an event that is no step makes of a state, and its record.
use Rattle.std.proofs.Common.{◌≡◌, ◌≢◌, ◌∙◌, ℕ, zero, suc, ◌+◌, ◌-◌, ◌%◌, ◌^◌, ◌<◌, ◌≤◌, Bool, true, false, cond, List, [], ◌∷◌, ◌++◌, length, take, drop, None, Ok, Err, refl, sym, ap, subst, arith, append-nil, length-append, inl, inr, true≢false}
use Rattle.std.specs.Prelude.{◌⊎◌, ◌==◌, ◌||◌, bit_xor, nat_lt, slice_index}
use Rattle.std.specs.List.{flat_map}
use Rattle.std.proofs.lemmas.Bool.{cases_lt, false≢true}
use Rattle.std.proofs.lemmas.Bool.Decides.{nat_tests}
use Rattle.std.proofs.lemmas.List.{get_or-set_other, length-map, length-set}
use Rattle.model.specs.Transcript.{after_event}
use Rattle.model.specs.Effect.{status}
use Rattle.model.specs.Event.{bus_with_patch, event_of, input_of, meets_port, patch_of, reset_of, reset_state, set_to}
use Rattle.model.specs.Session.{Session, keep_last, with_state}
use Rattle.model.specs.State.{Bus, IsState, State, bus_with_byte}
use Rattle.model.specs.Step.{most_cycles, step}
use Rattle.model.specs.declared.event.Event.{Event}
use Rattle.model.specs.declared.event.Event.TheVariants as event
use Rattle.model.specs.declared.event.EventFault.{EventFault}
use Rattle.model.specs.declared.event.EventFault.TheVariants.{BadLength, CyclesFull, InputFull, PastEnd, PortAddress}
use Rattle.page_data.specs.Changes.{Tells, back, flipped, forth}
use Rattle.page_data.specs.Events.{IsBefore, change_told, event_change, handed_by, is_reset, is_step, led_by, patched_by, patched_from}
use Rattle.page_data.specs.Format.{IsSmall, bytes_of, cell, counted, eight as eight_of, head, marks, without_zeros}
use Rattle.page_data.specs.Steps.{IsAhead, cells_after, with_input}
use Rattle.page_data.specs.declared.ahead.Ahead.{Ahead}
use Rattle.page_data.specs.declared.event.Before.{Before}
use Rattle.page_data.proofs.Between.{cut, flags_back, flags_forth, step_differs}
use Rattle.page_data.proofs.Memory.{AreApart, Outside, cells_are, flipped_back, flipped_is}
use Rattle.page_data.proofs.Pushing.{parts_joined}
use Rattle.page_data.proofs.Recording.{no_input}
use Rattle.page_data.proofs.Telling.{told_more}
use Rattle.page_data.proofs.Xor.{flip_again, flip_back, xor_again, xor_back}

-- what the record of an event tells of two states
pub record Turns (handed at : List ℕ) (s t : State) : Type 0 where
  pub map : t.bus.map ≡ s.bus.map
  pub given : t.bus.given ≡ s.bus.given ++ handed
  pub size : length t.bus.memory ≡ length s.bus.memory
  pub memory : (k : ℕ) → Outside k at → slice_index t.bus.memory k ≡ slice_index s.bus.memory k
  pub taken : t.bus.taken ≡ s.bus.taken
  pub out : t.bus.out ≡ s.bus.out
  pub from : s.cycles ≤ t.cycles
  pub to : t.cycles < s.cycles + 16

-- ---- bytes that are patched

-- an address outside of so many from one on
past : (k address n : ℕ) → (k < address) ⊎ (address + suc n ≤ k) → (k < address + 1) ⊎ (address + 1 + n ≤ k)
past k address n (inl low) = inl (omega (arith, low))
past k address n (inr high) = inr (omega (arith, high))

other : (k address n : ℕ) → (k < address) ⊎ (address + suc n ≤ k) → k ≢ address
other k address n (inl low) = λ e. omega (arith, low, e)
other k address n (inr high) = λ e. omega (arith, high, e)

patched_away : (bytes : List ℕ) (address k : ℕ) (bus : Bus) → (k < address) ⊎ (address + length bytes ≤ k)
    → slice_index (bus_with_patch address bytes bus).memory k ≡ slice_index bus.memory k
patched_away [] address k bus out = refl
patched_away (b ∷ bytes) address k bus out =
    patched_away bytes (address + 1) k (bus_with_byte bus address b) (past k address (length bytes) out)
    ∙ get_or-set_other bus.memory address k b 0 (other k address (length bytes) out)

-- all but the memory stays
pub record OnlyMemory (a b : Bus) : Type 0 where
  pub map : b.map ≡ a.map
  pub given : b.given ≡ a.given
  pub size : length b.memory ≡ length a.memory
  pub taken : b.taken ≡ a.taken
  pub out : b.out ≡ a.out

patched_keeps : (bytes : List ℕ) (address : ℕ) (bus : Bus) → OnlyMemory bus (bus_with_patch address bytes bus)
patched_keeps [] address bus = record { map = refl; given = refl; size = refl; taken = refl; out = refl }
patched_keeps (b ∷ bytes) address bus =
    let rest = patched_keeps bytes (address + 1) (bus_with_byte bus address b) in
    record { map = rest.map; given = rest.given; size = rest.size ∙ length-set bus.memory address b; taken = rest.taken; out = rest.out }

above : (a k : ℕ) → a ≤ k → k ≢ a → a + 1 ≤ k
above a k on differs = elim (cases_lt a k) [
  | inl less ↦ omega (arith, less)
  | inr same ↦ absurd (differs (omega (arith, on, same)))
]

-- past one more address of a patch, or past its bytes
further : (a k n j : ℕ) → a + j ≤ k → k ≢ (a + j) % 65536 → a + n ≤ 65536 → (a + n ≤ k) ⊎ (a + (j + 1) ≤ k)
further a k n j on differs room = elim (cases_lt j n) [
  | inl less ↦ inr (omega (arith, above (a + j) k on (λ e. differs (omega (arith, e, less, room)))))
  | inr past ↦ inl (omega (arith, on, past))
]

listed : ℕ → ℕ → List ℕ
listed address count = take count (address ∷ (address + 1) % 65536 ∷ (address + 2) % 65536 ∷ [])

-- what is outside of the addresses of a patch is outside of its bytes
module _ (n address k : ℕ) (room : address + n ≤ 65536) where
  outside_on : (count : ℕ) → n ≤ count → count ≤ 3 → address ≤ k → Outside k (listed address count) → address + n ≤ k
  unfolding listed
  outside_on zero few most on out = omega (arith, on, few)
  outside_on (suc zero) few most on out = omega (arith, few, above address k on out.0)
  outside_on (suc (suc zero)) few most on out = elim (further address k n 1 (above address k on out.0) out.1.0 room) [
    | inl past ↦ past
    | inr next ↦ omega (arith, next, few)
  ]
  outside_on (suc (suc (suc zero))) few most on out = elim (further address k n 1 (above address k on out.0) out.1.0 room) [
    | inl past ↦ past
    | inr next ↦ elim (further address k n 2 (omega (arith, next)) out.1.1.0 room) [
      | inl past ↦ past
      | inr last ↦ omega (arith, last, few)
    ]
  ]
  outside_on (suc (suc (suc (suc count)))) few most on out = absurd (omega (arith, most))

  outside : (count : ℕ) → n ≤ count → count ≤ 3 → Outside k (listed address count) → (k < address) ⊎ (address + n ≤ k)
  outside count few most out = elim (cases_lt k address) [
    | inl low ↦ inl low
    | inr on ↦ inr (outside_on count few most on out)
  ]

listed_apart : (address count : ℕ) → AreApart (listed address count)
unfolding listed
listed_apart address zero = tt
listed_apart address (suc zero) = (tt, tt)
listed_apart address (suc (suc zero)) = ((λ e. omega (arith, e), tt), (tt, tt))
listed_apart address (suc (suc (suc zero))) = ((λ e. omega (arith, e), (λ e. omega (arith, e), tt)), ((λ e. omega (arith, e), tt), (tt, tt)))
listed_apart address (suc (suc (suc (suc count)))) = ((λ e. omega (arith, e), (λ e. omega (arith, e), tt)), ((λ e. omega (arith, e), tt), (tt, tt)))

listed_few : (address count : ℕ) → length (listed address count) ≤ 3
unfolding listed
listed_few address zero = omega arith
listed_few address (suc zero) = omega arith
listed_few address (suc (suc zero)) = omega arith
listed_few address (suc (suc (suc zero))) = omega arith
listed_few address (suc (suc (suc (suc count)))) = omega arith

apart_if : (b : Bool) (address count : ℕ) → AreApart (cond b [] (listed address count))
apart_if true address count = tt
apart_if false address count = listed_apart address count

few_if : (b : Bool) (address count : ℕ) → length (cond b [] (listed address count)) ≤ 3
few_if true address count = omega arith
few_if false address count = listed_few address count

pub patched_apart : (e : Event) → AreApart (patched_by e)
unfolding listed
patched_apart (event.Patch address bytes count) = apart_if (nat_lt 3 count) address count
patched_apart e = tt

pub patched_few : (e : Event) → length (patched_by e) ≤ 3
unfolding listed
patched_few (event.Patch address bytes count) = few_if (nat_lt 3 count) address count
patched_few e = omega arith

take_few : (n : ℕ) (bytes : List ℕ) → length (take n bytes) ≤ n
take_few zero bytes = omega arith
take_few (suc n) [] = omega arith
take_few (suc n) (b ∷ bytes) = omega (arith, take_few n bytes)

-- ---- events

patch_by : (many bad past port : Bool) (s t : State) (bus : Bus)
    → cond many (Err BadLength) (cond bad (Err BadLength) (cond past (Err PastEnd) (cond port (Err PortAddress) (Ok (record s { bus = bus }))))) ≡ Ok t
    → (many ≡ false) × (past ≡ false) × (record s { bus = bus } ≡ t)
patch_by false false false false s t bus made = (refl, refl, cc)
patch_by false false false true s t bus made = cc
patch_by false false true port s t bus made = cc
patch_by false true past port s t bus made = cc
patch_by true bad past port s t bus made = cc

few_counted : (count : ℕ) → nat_lt 3 count ≡ false → count ≤ 3
few_counted count few = grind (arith, nat_tests)

patch_room : (end : ℕ) → nat_lt 65536 end ≡ false → end ≤ 65536
patch_room end room = grind (arith, nat_tests)

outside_if : (b : Bool) (address count k : ℕ) → b ≡ false → Outside k (cond b [] (listed address count)) → Outside k (listed address count)
outside_if b address count k is out = subst (λ (x : Bool). Outside k (cond x [] (listed address count))) is out

patch_turns : (address : ℕ) (bytes : List ℕ) (count : ℕ) (s t : State) → event_of s (event.Patch address bytes count) ≡ Ok t
    → Turns [] (patched_from address count) s t
unfolding event_of patch_of listed
patch_turns address bytes count s t made =
    let put = take count bytes in
    let bus = bus_with_patch address put s.bus in
    let by = patch_by (nat_lt 3 count) ((length put == 0) || nat_lt 3 (length put)) (nat_lt 65536 (address + length put))
    (meets_port s.bus.map address put) s t bus made in
    let keeps = patched_keeps put address s.bus in
    let room = patch_room (address + length put) by.1 in
    subst (λ (x : State). Turns [] (patched_from address count) s x) by.2 (record {
      map = keeps.map;
      given = keeps.given ∙ sym (append-nil s.bus.given);
      size = keeps.size;
      memory = λ k out. patched_away put address k s.bus
          (outside (length put) address k room count (take_few count bytes) (few_counted count by.0) (outside_if (nat_lt 3 count) address count k by.0 out));
      taken = keeps.taken;
      out = keeps.out;
      from = omega arith;
      to = omega arith;
    })

still : (s t : State) → t.bus ≡ s.bus → t.cycles ≡ s.cycles → Turns [] [] s t
still s t bus cycles = record {
  map = ap (λ (b : Bus). b.map) bus;
  given = ap (λ (b : Bus). b.given) bus ∙ sym (append-nil s.bus.given);
  size = ap (λ (b : Bus). length b.memory) bus;
  memory = λ k out. ap (λ (b : Bus). slice_index b.memory k) bus;
  taken = ap (λ (b : Bus). b.taken) bus;
  out = ap (λ (b : Bus). b.out) bus;
  from = omega (arith, cycles);
  to = omega (arith, cycles);
}

reset_by : (full : Bool) (s t : State) → cond full (Err CyclesFull) (Ok (reset_state s)) ≡ Ok t → reset_state s ≡ t
reset_by true s t made = cc
reset_by false s t made = cc

reset_turns : (s t : State) → event_of s event.Reset ≡ Ok t → Turns [] [] s t
unfolding event_of reset_of reset_state
reset_turns s t made = subst (λ (x : State). Turns [] [] s x) (reset_by (nat_lt most_cycles s.cycles) s t made) (record {
  map = refl;
  given = sym (append-nil s.bus.given);
  size = refl;
  memory = λ k out. refl;
  taken = refl;
  out = refl;
  from = omega arith;
  to = omega arith;
})

input_by : (full : Bool) (s t u : State) → cond full (Err InputFull) (Ok u) ≡ Ok t → u ≡ t
input_by true s t u made = cc
input_by false s t u made = cc

input_turns : (byte : ℕ) (s t : State) → event_of s (event.Input byte) ≡ Ok t → Turns (byte ∷ []) [] s t
unfolding event_of input_of
input_turns byte s t made =
    let after : State = record s { bus = record s.bus { given = s.bus.given ++ byte ∷ [] } } in
    subst (λ (x : State). Turns (byte ∷ []) [] s x) (input_by _ s t after made) (record {
      map = refl;
      given = refl;
      size = refl;
      memory = λ k out. refl;
      taken = refl;
      out = refl;
      from = omega arith;
      to = omega arith;
    })

pub event_turns : (e : Event) (s t : State) → is_step e ≡ false → event_of s e ≡ Ok t → Turns (handed_by e) (patched_by e) s t
unfolding event_of
event_turns event.Step s t not_step made = absurd (true≢false not_step)
event_turns event.Reset s t not_step made = reset_turns s t made
event_turns (event.Irq level) s t not_step made =
    let same : (record s { irq = level }) ≡ t = cc in
    still s t (ap (λ (x : State). x.bus) (sym same)) (ap (λ (x : State). x.cycles) (sym same))
event_turns event.Nmi s t not_step made =
    let same : (record s { nmi = true }) ≡ t = cc in
    still s t (ap (λ (x : State). x.bus) (sym same)) (ap (λ (x : State). x.cycles) (sym same))
event_turns (event.Set setting) s t not_step made =
    let same : (record s { regs = set_to setting s.regs }) ≡ t = cc in
    still s t (ap (λ (x : State). x.bus) (sym same)) (ap (λ (x : State). x.cycles) (sym same))
event_turns (event.Patch address bytes count) s t not_step made = patch_turns address bytes count s t made
event_turns (event.Input byte) s t not_step made = input_turns byte s t made

-- ---- forwards and back

event_forth : (e : Event) (s t : State) → Turns (handed_by e) (patched_by e) s t → forth (event_change e s t) s ≡ t
unfolding forth event_change
event_forth e s t h =
    let map = sym h.map in
    let memory = flipped_is s.bus.memory t.bus.memory (patched_by e) h.size h.memory (patched_apart e) in
    let taken : s.bus.taken + 0 ≡ t.bus.taken = omega (arith, h.taken) in
    let out = append-nil s.bus.out ∙ sym h.out in
    let input = sym h.given in
    let control = flip_again s.bus.control t.bus.control in
    let a = xor_again s.regs.a t.regs.a in
    let x = xor_again s.regs.x t.regs.x in
    let y = xor_again s.regs.y t.regs.y in
    let sp = xor_again s.regs.s t.regs.s in
    let pc = xor_again s.regs.pc t.regs.pc in
    let flags = flags_forth s t in
    let irq = flip_again s.irq t.irq in
    let nmi = flip_again s.nmi t.nmi in
    let cycles : s.cycles + (t.cycles - s.cycles) ≡ t.cycles = omega (arith, h.from) in
    λ i. record {
      bus = record { map = map i; memory = memory i; given = input i; taken = taken i; out = out i; control = control i };
      regs = record { a = a i; x = x i; y = y i; s = sp i; pc = pc i; flags = flags i };
      irq = irq i;
      nmi = nmi i;
      cycles = cycles i;
    }

event_back : (e : Event) (s t : State) → Turns (handed_by e) (patched_by e) s t → back (event_change e s t) t ≡ s
unfolding back event_change
event_back e s t h =
    let memory = flipped_back s.bus.memory t.bus.memory (patched_by e) h.size h.memory (patched_apart e) in
    let taken : t.bus.taken - 0 ≡ s.bus.taken = omega (arith, h.taken) in
    let out = cut s.bus.out [] t.bus.out (h.out ∙ sym (append-nil s.bus.out)) in
    let input = cut s.bus.given (handed_by e) t.bus.given h.given in
    let control = flip_back s.bus.control t.bus.control in
    let a = xor_back s.regs.a t.regs.a in
    let x = xor_back s.regs.x t.regs.x in
    let y = xor_back s.regs.y t.regs.y in
    let sp = xor_back s.regs.s t.regs.s in
    let pc = xor_back s.regs.pc t.regs.pc in
    let flags = flags_back s t in
    let map = h.map in
    let irq = flip_back s.irq t.irq in
    let nmi = flip_back s.nmi t.nmi in
    let cycles : t.cycles - (t.cycles - s.cycles) ≡ s.cycles = omega (arith, h.from) in
    λ i. record {
      bus = record { map = map i; memory = memory i; given = input i; taken = taken i; out = out i; control = control i };
      regs = record { a = a i; x = x i; y = y i; s = sp i; pc = pc i; flags = flags i };
      irq = irq i;
      nmi = nmi i;
      cycles = cycles i;
    }

few_handed : (e : Event) → length (handed_by e) < 2 ^ 64
few_handed (event.Input byte) = omega arith
few_handed e = omega arith

event_small : (e : Event) (s t : State) → Turns (handed_by e) (patched_by e) s t → IsSmall (event_change e s t)
unfolding event_change
event_small e s t h =
    let pair : ℕ → ℕ × ℕ = λ a. (a, bit_xor (slice_index s.bus.memory a) (slice_index t.bus.memory a)) in
    record {
      cycles = omega (arith, h.from, h.to);
      reads = omega arith;
      stores = omega (arith, length-map (patched_by e) pair, patched_few e);
      given = few_handed e;
    }

-- ---- the record of an event

change_same : (e : Event) (before : Before) (s t : State) → IsBefore before e s → change_told e before t ≡ event_change e s t
unfolding change_told event_change
change_same e before s t h =
    let regs = h.regs in
    let cycles = h.cycles in
    let control = ap (λ (b : Bool). flipped b t.bus.control) h.control in
    let cells = ap (cells_after t.bus.memory) h.cells ∙ cells_are s.bus.memory t.bus.memory (patched_by e) in
    let irq = ap (λ (b : Bool). flipped b t.irq) h.irq in
    let nmi = ap (λ (b : Bool). flipped b t.nmi) h.nmi in
    λ i. record {
      cycles = t.cycles - cycles i;
      a = bit_xor (regs i).a t.regs.a;
      x = bit_xor (regs i).x t.regs.x;
      y = bit_xor (regs i).y t.regs.y;
      s = bit_xor (regs i).s t.regs.s;
      p = bit_xor (status false (regs i).flags) (status false t.regs.flags);
      pc = bit_xor (regs i).pc t.regs.pc;
      reads = [];
      stores = cells i;
      out = None;
      takes = false;
      control = control i;
      irq = irq i;
      nmi = nmi i;
      given = handed_by e;
      entry = is_reset e;
    }

-- ---- a session

kept_all : (history : ℕ) (states : List State) (s : State) → length states < history → keep_last history (states ++ s ∷ []) ≡ states ++ s ∷ []
kept_all history states s room =
    let none : length (states ++ s ∷ []) - history ≡ 0 = omega (arith, room, length-append states (s ∷ [])) in
    ap (λ (k : ℕ). drop k (states ++ s ∷ [])) none

-- the states that a session holds after one more, with the current one
abbrev ToldTo : State → List ℕ → Session → Type 0
ToldTo start bytes s = Tells start bytes s.earlier s.current

held_told : (start t : State) (s : Session) (bytes : List ℕ) → length s.earlier < s.history → Tells start bytes (s.earlier ++ s.current ∷ []) t
    → ToldTo start bytes (with_state s t)
held_told start t s bytes room told = subst (λ (states : List State). Tells start bytes states t) (sym (kept_all s.history s.earlier s.current room)) told

pub other_told : (e : Event) (before : Before) (s : Session) (t start : State) (old new : List ℕ) → is_step e ≡ false → event_of s.current e ≡ Ok t
    → IsBefore before e s.current
    → new ≡ old ++ bytes_of (change_told e before t) → length s.earlier < s.history → ToldTo start old s → ToldTo start new (with_state s t)
other_told e before s t start old new not_step made known grown room h =
    let turns = event_turns e s.current t not_step made in
    let change = event_change e s.current t in
    let whole : new ≡ old ++ bytes_of change = grown ∙ ap (λ c. old ++ bytes_of c) (change_same e before s.current t known) in
    let told = told_more start s.current t old s.earlier change (event_small e s.current t turns) (event_forth e s.current t turns)
    (event_back e s.current t turns) h in
    held_told start t s new room (subst (λ (l : List ℕ). Tells start l (s.earlier ++ s.current ∷ []) t) (sym whole) told.0)

pub other_recorded : (e : Event) (before : Before) (s new : Session) (start : State) (bytes more : List ℕ) → is_step e ≡ false
    → (t : State) × (event_of s.current e ≡ Ok t) × (new ≡ with_state s t) → IsBefore before e s.current
    → more ≡ bytes ++ bytes_of (change_told e before new.current) → length s.earlier < s.history → Tells start bytes s.earlier s.current
    → Tells start more new.earlier new.current
other_recorded e before s new start bytes more not_step made known grown room h =
    let now : new.current ≡ made.0 = ap (λ (u : Session). u.current) made.2 in
    let whole : more ≡ bytes ++ bytes_of (change_told e before made.0) = grown ∙ ap (λ (t : State). bytes ++ bytes_of (change_told e before t)) now in
    subst (λ (u : Session). ToldTo start more u) (sym made.2) (other_told e before s made.0 start bytes more not_step made.1 known whole room h)

-- ---- a step

step_is : (e : Event) → is_step e ≡ true → e ≡ event.Step
step_is event.Step is = refl
step_is event.Reset is = absurd (false≢true is)
step_is (event.Irq level) is = absurd (false≢true is)
step_is event.Nmi is = absurd (false≢true is)
step_is (event.Set setting) is = absurd (false≢true is)
step_is (event.Patch address bytes count) is = absurd (false≢true is)
step_is (event.Input byte) is = absurd (false≢true is)

step_made : (s t : State) → event_of s event.Step ≡ Ok t → step (with_input [] s) ≡ Ok t
unfolding event_of
step_made s t made = ap step (no_input s) ∙ made

step_told : (s new : Session) (start : State) (more : List ℕ) → (t : State) × (event_of s.current event.Step ≡ Ok t) × (new ≡ with_state s t)
    → (step (with_input [] s.current) ≡ Ok new.current → Tells start more (s.earlier ++ s.current ∷ []) new.current)
    → length s.earlier < s.history → Tells start more new.earlier new.current
step_told s new start more made tells room =
    let now : new.current ≡ made.0 = ap (λ (u : Session). u.current) made.2 in
    let stepped : step (with_input [] s.current) ≡ Ok new.current = step_made s.current made.0 made.1 ∙ sym (ap (λ (x : State). Ok x) now) in
    let all : Tells start more (s.earlier ++ s.current ∷ []) made.0 =
    subst (λ (t : State). Tells start more (s.earlier ++ s.current ∷ []) t) now (tells stepped) in
    subst (λ (u : Session). ToldTo start more u) (sym made.2) (held_told start made.0 s more room all)

pub step_recorded : (e : Event) (s new : Session) (start : State) (more : List ℕ) → is_step e ≡ true → (t : State) × (event_of s.current e ≡ Ok t)
    × (new ≡ with_state s t)
    → (step (with_input [] s.current) ≡ Ok new.current → Tells start more (s.earlier ++ s.current ∷ []) new.current)
    → length s.earlier < s.history → Tells start more new.earlier new.current
step_recorded e s new start more is made tells room =
    let one = step_is e is in
    step_told s new start more (made.0, subst (λ (x : Event). event_of s.current x ≡ Ok made.0) one made.1, made.2) tells room

-- ---- an event of a session

pub made_led : (e : Event) (s new : Session) → (t : State) × (event_of s.current e ≡ Ok t) × (new ≡ with_state s t) → new ≡ led_by e s
made_led e s new made = made.2 ∙ sym (ap (after_event s) made.1)

pub refused_led : (e : Event) (s new : Session) (fault : EventFault) → (event_of s.current e ≡ Err fault) × (new ≡ s) → new ≡ led_by e s
refused_led e s new fault h = h.1 ∙ sym (ap (after_event s) h.0)

-- ---- a record, part by part

pub event_pushed : (e : Event) (before : Before) (t : State) (old a b c d eight : List ℕ) (x : ℕ) → a ≡ old ++ x ∷ []
    → x ≡ head (change_told e before t) → eight ≡ eight_of (change_told e before t)
    → b ≡ a ++ marks eight ∷ without_zeros eight → c ≡ b ++ flat_map cell (cells_after t.bus.memory before.cells.items)
    → d ≡ c ++ counted (handed_by e) → d ≡ old ++ bytes_of (change_told e before t)
unfolding change_told bytes_of
event_pushed e before t old a b c d eight x ea first changed eb ec ed =
    let change = change_told e before t in
    let stores = flat_map cell (cells_after t.bus.memory before.cells.items) in
    let given = counted (handed_by e) in
    parts_joined old a b b c c d x (marks eight) (without_zeros eight) [] stores [] given ea eb (sym (append-nil b)) ec (sym (append-nil c)) ed
    ∙ ap (λ (y : ℕ). old ++ y ∷ marks eight ∷ (without_zeros eight ++ (stores ++ given))) first
    ∙ ap (λ (l : List ℕ). old ++ head change ∷ marks l ∷ (without_zeros l ++ (stores ++ given))) changed
