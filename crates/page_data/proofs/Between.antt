-- The change between two states leads from the first to the second, and back.
use Rattle.std.proofs.Common.{◌≡◌, ◌∙◌, ℕ, ◌+◌, ◌-◌, ◌%◌, ◌^◌, ◌<◌, ◌≤◌, Bool, true, false, cond, List, [], ◌∷◌, ◌++◌, length, take, Option, Some, None, Ok, Err, refl, sym, ap, subst, arith, length-append}
use Rattle.std.specs.Prelude.{◌==◌, ◌&&◌, ◌||◌, nat_lt, not, bit_xor, slice_get, slice_index}
use Rattle.std.specs.Option.{option_to_list}
use Rattle.std.proofs.lemmas.Bool.Decides.{nat_tests}
use Rattle.std.proofs.lemmas.List.{length-map, take_at}
use Rattle.model.specs.Arithmetic.{bit}
use Rattle.model.specs.Effect.{flags_of_byte, operation_of, status}
use Rattle.model.specs.Operand.{address_at, address_in_page, effective_address, jump_target}
use Rattle.model.specs.State.{Bus, IsState, State}
use Rattle.model.specs.Step.{attempt, entry_due, interrupt_entry, irq_asked, most_cycles, step}
use Rattle.model.specs.declared.instruction.EffectiveAddress.{EffectiveAddress}
use Rattle.model.specs.declared.instruction.Mode.{Mode}
use Rattle.model.specs.declared.instruction.Mode.TheVariants.{Imp, Acc, Imm, Zp, ZpX, ZpY, Abs, AbsX, AbsY, IndX, IndY, Ind, Rel, IndZ}
use Rattle.model.specs.declared.instruction.Profile.{Profile}
use Rattle.model.specs.declared.instruction.Profile.TheVariants.{N, C}
use Rattle.model.specs.declared.instruction.Row.{Row}
use Rattle.model.specs.declared.operation.Operation.{Operation}
use Rattle.model.specs.declared.operation.Operation.TheVariants as operation
use Rattle.model.specs.declared.event.EventFault.TheVariants.{CyclesFull}
use Rattle.model.specs.declared.registers.Regs.{Regs}
use Rattle.cpu_step.specs.Access.{access_by, access_here, access_of, row_here}
use Rattle.cpu_step.specs.Stored.{below, stored_at, stores_by, stores_here}
use Rattle.accesses.specs.Footprint.{pointer_and_operand, pointer_in, reads_by, reads_here, reads_of}
use Rattle.accesses.specs.Moments.{entered, entry_stores, moment_of, step_stores, stored_by}
use Rattle.accesses.proofs.Entries.{entered_is}
use Rattle.page_data.specs.Changes.{back, flipped, forth, without_last}
use Rattle.page_data.specs.Format.{IsSmall}
use Rattle.page_data.specs.Steps.{change_of, read_by, step_reads, vector_reads, with_input}
use Rattle.page_data.proofs.Effects.{InRange, Steps, attempted_steps, entry_steps}
use Rattle.page_data.proofs.Memory.{AreApart, Outside, flipped_back, flipped_is}
use Rattle.page_data.proofs.Xor.{flags_again, flip_again, flip_back, xor_again, xor_back}

-- What a change can tell of two states, of which the second has n bytes of input more.
pub record Differs (handed : List ℕ) (at : List ℕ) (s t : State) : Type 0 where
  pub map : t.bus.map ≡ s.bus.map
  pub given : t.bus.given ≡ s.bus.given ++ handed
  pub size : length t.bus.memory ≡ length s.bus.memory
  pub memory : (k : ℕ) → Outside k at → slice_index t.bus.memory k ≡ slice_index s.bus.memory k
  pub apart : AreApart at
  pub taken : t.bus.taken ≡ s.bus.taken + bit (nat_lt s.bus.taken t.bus.taken)
  pub out : t.bus.out ≡ s.bus.out ++ option_to_list (slice_get t.bus.out (length s.bus.out))
  pub irq : t.irq ≡ s.irq
  pub nmi : t.nmi ≡ false
  pub cycles : s.cycles ≤ t.cycles

-- ---- forwards and back

pub flags_forth : (s t : State) → flags_of_byte (bit_xor (status false s.regs.flags)
    (bit_xor (status false s.regs.flags) (status false t.regs.flags))) ≡ t.regs.flags
flags_forth s t = ap flags_of_byte (xor_again (status false s.regs.flags) (status false t.regs.flags)) ∙ flags_again t.regs.flags

pub flags_back : (s t : State) → flags_of_byte (bit_xor (status false t.regs.flags) (bit_xor (status false s.regs.flags) (status false t.regs.flags)))
    ≡ s.regs.flags
flags_back s t = ap flags_of_byte (xor_back (status false s.regs.flags) (status false t.regs.flags)) ∙ flags_again s.regs.flags

pending_gone : (b : Bool) → flipped b b ≡ false
pending_gone true = refl
pending_gone false = refl

pending_back : (b : Bool) → flipped b false ≡ b
pending_back true = refl
pending_back false = refl

pub cut : (xs ys whole : List ℕ) → whole ≡ xs ++ ys → without_last (length ys) whole ≡ xs
cut xs ys whole e =
    let n : length whole - length ys ≡ length xs = omega (arith, ap length e, length-append xs ys) in
    ap (λ k. take k whole) n ∙ ap (take (length xs)) e ∙ take_at xs ys (length xs) refl

pub leads_forth : (given : List ℕ) (s t : State) → Differs given (step_stores s t) s t → forth (change_of given s t) s ≡ t
unfolding forth change_of
leads_forth given s t h =
    let map = sym h.map in
    let memory = flipped_is s.bus.memory t.bus.memory (step_stores s t) h.size h.memory h.apart in
    let taken = sym h.taken in
    let out = sym h.out in
    let input = sym h.given in
    let control = flip_again s.bus.control t.bus.control in
    let a = xor_again s.regs.a t.regs.a in
    let x = xor_again s.regs.x t.regs.x in
    let y = xor_again s.regs.y t.regs.y in
    let sp = xor_again s.regs.s t.regs.s in
    let pc = xor_again s.regs.pc t.regs.pc in
    let flags = flags_forth s t in
    let irq = sym h.irq in
    let nmi = pending_gone s.nmi ∙ sym h.nmi in
    let cycles : s.cycles + (t.cycles - s.cycles) ≡ t.cycles = omega (arith, h.cycles) in
    λ i. record {
      bus = record { map = map i; memory = memory i; given = input i; taken = taken i; out = out i; control = control i };
      regs = record { a = a i; x = x i; y = y i; s = sp i; pc = pc i; flags = flags i };
      irq = irq i;
      nmi = nmi i;
      cycles = cycles i;
    }

pub leads_back : (given : List ℕ) (s t : State) → Differs given (step_stores s t) s t → back (change_of given s t) t ≡ s
unfolding back change_of
leads_back given s t h =
    let memory = flipped_back s.bus.memory t.bus.memory (step_stores s t) h.size h.memory h.apart in
    let taken : t.bus.taken - bit (nat_lt s.bus.taken t.bus.taken) ≡ s.bus.taken = omega (arith, h.taken) in
    let out = cut s.bus.out (option_to_list (slice_get t.bus.out (length s.bus.out))) t.bus.out h.out in
    let input = cut s.bus.given given t.bus.given h.given in
    let control = flip_back s.bus.control t.bus.control in
    let a = xor_back s.regs.a t.regs.a in
    let x = xor_back s.regs.x t.regs.x in
    let y = xor_back s.regs.y t.regs.y in
    let sp = xor_back s.regs.s t.regs.s in
    let pc = xor_back s.regs.pc t.regs.pc in
    let flags = flags_back s t in
    let map = h.map in
    let irq = h.irq in
    let nmi = ap (flipped s.nmi) h.nmi ∙ pending_back s.nmi in
    let cycles : t.cycles - (t.cycles - s.cycles) ≡ s.cycles = omega (arith, h.cycles) in
    λ i. record {
      bus = record { map = map i; memory = memory i; given = input i; taken = taken i; out = out i; control = control i };
      regs = record { a = a i; x = x i; y = y i; s = sp i; pc = pc i; flags = flags i };
      irq = irq i;
      nmi = nmi i;
      cycles = cycles i;
    }

-- ---- a step

-- where it has stored, by whether an entry was due
step_by : (s t : State) (full nmi irq : Bool) → InRange s → s.nmi ≡ nmi
    → cond full (Err CyclesFull) (cond nmi (Ok (interrupt_entry (record s { nmi = false }) 0xFFFA))
    (cond irq (Ok (interrupt_entry s 0xFFFE)) (attempt (row_here s) s))) ≡ Ok t
    → Steps (stored_by (nmi || irq) s.regs.s (stores_here s)) s t
step_by s t true nmi irq h is made = cc
step_by s t false true irq h is made =
    let none : State = record s { nmi = false } in
    let same : interrupt_entry none 0xFFFA ≡ t = cc in
    let entry = entry_steps none 0xFFFA h.s refl in
    let whole : Steps (entry_stores s.regs.s) s (interrupt_entry none 0xFFFA) =
    record { bus = entry.bus; irq = entry.irq; nmi = entry.nmi; from = entry.from; to = entry.to } in
    subst (λ (x : State). Steps (entry_stores s.regs.s) s x) same whole
step_by s t false false true h is made =
    let same : interrupt_entry s 0xFFFE ≡ t = cc in
    subst (λ (x : State). Steps (entry_stores s.regs.s) s x) same (entry_steps s 0xFFFE h.s is)
step_by s t false false false h is made = attempted_steps s t h is made

steps : (s t : State) → InRange s → step s ≡ Ok t → Steps (step_stores s t) s t
unfolding step
steps s t h made =
    let all : Steps (stored_by (entry_due s) s.regs.s (stores_here s)) s t =
    step_by s t (nat_lt most_cycles s.cycles) s.nmi (irq_asked s && not s.regs.flags.i) h refl made in
    subst (λ (b : Bool). Steps (stored_by b s.regs.s (stores_here s)) s t) (sym (entered_is s t all.bus.given)) all

-- ---- where input was handed in before

target_given : (profile : Profile) (bus : Bus) (given : List ℕ) (pointer : ℕ)
    → jump_target profile (record bus { given = given }) pointer ≡ jump_target profile bus pointer
unfolding jump_target address_at address_in_page
target_given N bus given pointer = refl
target_given C bus given pointer = refl

place_given : (bus : Bus) (given : List ℕ) (regs : Regs) (mode : Mode)
    → effective_address (record bus { given = given }) regs mode ≡ effective_address bus regs mode
unfolding effective_address address_at address_in_page
place_given bus given regs Imp = refl
place_given bus given regs Acc = refl
place_given bus given regs Imm = refl
place_given bus given regs Zp = refl
place_given bus given regs ZpX = refl
place_given bus given regs ZpY = refl
place_given bus given regs Abs = refl
place_given bus given regs AbsX = refl
place_given bus given regs AbsY = refl
place_given bus given regs IndX = refl
place_given bus given regs IndY = refl
place_given bus given regs Ind = ap (λ (address : ℕ). record { address = address; crossed = false })
    (target_given bus.map.profile bus given (address_at bus ((regs.pc + 1) % 65536)))
place_given bus given regs Rel = refl
place_given bus given regs IndZ = refl

access_given : (row : Option Row) (s : State) (given : List ℕ) → access_by row (record s { bus = record s.bus { given = given } }) ≡ access_by row s
access_given None s given = refl
access_given (Some row) s given = ap (λ (place : EffectiveAddress). access_of (operation_of row.mnemonic) row.mode place.address)
    (place_given s.bus given s.regs row.mode)

stores_given : (s : State) (given : List ℕ) → stores_here (with_input given s) ≡ stores_here s
unfolding stores_here access_here
stores_given s given = ap (λ a. stores_by a s.regs.s) (access_given (row_here s) s (s.bus.given ++ given))

step_stores_given : (s t : State) (given : List ℕ) → step_stores (with_input given s) t ≡ step_stores s t
step_stores_given s t given = ap (stored_by (entered (moment_of s) t) s.regs.s) (stores_given s given)

-- ---- addresses

pushes_apart : (s : ℕ) → s < 256 → AreApart (entry_stores s)
pushes_apart s small = ((λ e. omega (arith, e, small), (λ e. omega (arith, e, small), tt)), ((λ e. omega (arith, e, small), tt), (tt, tt)))

stores_apart_by : (store : Option ℕ) (none one two : Bool) (s : ℕ) → s < 256
    → AreApart (stored_at store (cond none [] (cond one (below s 0 ∷ []) (cond two (below s 0 ∷ below s 1 ∷ []) (below s 0 ∷ below s 1 ∷ below s 2 ∷ [])))))
stores_apart_by (Some address) none one two s small = (tt, tt)
stores_apart_by None true one two s small = tt
stores_apart_by None false true two s small = (tt, tt)
stores_apart_by None false false true s small = ((λ e. omega (arith, e, small), tt), (tt, tt))
stores_apart_by None false false false s small = pushes_apart s small

apart_by : (b : Bool) (s : State) → s.regs.s < 256 → AreApart (stored_by b s.regs.s (stores_here s))
unfolding stores_here stores_by
apart_by true s small = pushes_apart s.regs.s small
apart_by false s small =
    let access = access_here s in
    stores_apart_by access.store (access.pushes == 0) (access.pushes == 1) (access.pushes == 2) s.regs.s small

stores_apart : (s t : State) → s.regs.s < 256 → AreApart (step_stores s t)
stores_apart s t small = apart_by (entered (moment_of s) t) s small

-- at most three
few_stored_by : (store : Option ℕ) (none one two : Bool) (s : ℕ)
    → length (stored_at store (cond none [] (cond one (below s 0 ∷ []) (cond two (below s 0 ∷ below s 1 ∷ []) (below s 0 ∷ below s 1 ∷ below s 2 ∷ []))))) ≤ 3
few_stored_by (Some address) none one two s = omega arith
few_stored_by None true one two s = omega arith
few_stored_by None false true two s = omega arith
few_stored_by None false false true s = omega arith
few_stored_by None false false false s = omega arith

few_by_entry : (b : Bool) (s : State) → length (stored_by b s.regs.s (stores_here s)) ≤ 3
unfolding stores_here stores_by
few_by_entry true s = omega arith
few_by_entry false s =
    let access = access_here s in
    few_stored_by access.store (access.pushes == 0) (access.pushes == 1) (access.pushes == 2) s.regs.s

few_stored : (s t : State) → length (step_stores s t) ≤ 3
few_stored s t = few_by_entry (entered (moment_of s) t) s

-- ---- the console

taken_by : (b : Bool) (s t : ℕ) → nat_lt s t ≡ b → s ≤ t → t ≤ s + 1 → t ≡ s + bit b
taken_by true s t e from to = grind (arith, nat_tests)
taken_by false s t e from to = grind (arith, nat_tests)

at_end : (xs : List ℕ) (y : ℕ) → slice_get (xs ++ y ∷ []) (length xs) ≡ Some y
at_end [] y = refl
at_end (x ∷ xs) y = at_end xs y

past_end : (xs : List ℕ) → slice_get (xs ++ []) (length xs) ≡ None
past_end [] = refl
past_end (x ∷ xs) = past_end xs

one_more : (xs whole more : List ℕ) → whole ≡ xs ++ more → length more ≤ 1 → whole ≡ xs ++ option_to_list (slice_get whole (length xs))
one_more xs whole [] e short = e ∙ ap (λ (o : Option ℕ). xs ++ option_to_list o) (sym (past_end xs) ∙ ap (λ (l : List ℕ). slice_get l (length xs)) (sym e))
one_more xs whole (y ∷ []) e short = e ∙ ap (λ (o : Option ℕ). xs ++ option_to_list o)
    (sym (at_end xs y) ∙ ap (λ (l : List ℕ). slice_get l (length xs)) (sym e))
one_more xs whole (y ∷ z ∷ more) e short = absurd (omega (arith, short))

-- ---- all of it

-- ---- reads

few_pointer : (pointer : Option (ℕ × ℕ)) (read : Option ℕ) → length (pointer_and_operand pointer read) ≤ 3
few_pointer None None = omega arith
few_pointer None (Some read) = omega arith
few_pointer (Some pointer) None = omega arith
few_pointer (Some pointer) (Some read) = omega arith

few_by : (op : Operation) (pointer : Option (ℕ × ℕ)) (read : Option ℕ) (s : ℕ) → length (reads_by op pointer read s) ≤ 3
unfolding reads_by
few_by operation.PullA pointer read s = omega arith
few_by operation.PullX pointer read s = omega arith
few_by operation.PullY pointer read s = omega arith
few_by operation.PullStatus pointer read s = omega arith
few_by operation.Return pointer read s = omega arith
few_by operation.ReturnInterrupt pointer read s = omega arith
few_by operation.Break pointer read s = omega arith
few_by op pointer read s = few_pointer pointer read

few_of : (row : Option Row) (s : State) → length (reads_of row s) ≤ 3
few_of None s = omega arith
few_of (Some row) s = few_by (operation_of row.mnemonic) (pointer_in s.bus s.regs row.mode) (access_here s).read s.regs.s

few_here : (s : State) → length (reads_here s) ≤ 3
unfolding reads_here
few_here s = few_of (row_here s) s

few_vector : (nmi : Bool) → length (vector_reads nmi) ≤ 3
few_vector true = omega arith
few_vector false = omega arith

few_reads_by : (b : Bool) (nmi : Bool) (reads : List ℕ) → length reads ≤ 3 → length (read_by b nmi reads) ≤ 3
few_reads_by true nmi reads few = few_vector nmi
few_reads_by false nmi reads few = few

few_reads : (s t : State) → length (step_reads s t) ≤ 3
few_reads s t = few_reads_by (entered (moment_of s) t) s.nmi (reads_here s) (few_here s)

-- ---- all of it

made_steps : (given : List ℕ) (s t : State) → IsState s → step (with_input given s) ≡ Ok t → Steps (step_stores s t) (with_input given s) t
made_steps given s t h made =
    let sound : InRange (with_input given s) = record { memory = h.bus.memory; s = h.regs.s; cycles = h.cycles } in
    subst (λ (at : List ℕ). Steps at (with_input given s) t) (step_stores_given s t given) (steps (with_input given s) t sound made)

pub step_differs : (given : List ℕ) (s t : State) → IsState s → step (with_input given s) ≡ Ok t → Differs given (step_stores s t) s t
step_differs given s t h made =
    let all = made_steps given s t h made in
    record {
      map = all.bus.map;
      given = all.bus.given;
      size = all.bus.size;
      memory = all.bus.memory;
      apart = stores_apart s t h.regs.s;
      taken = taken_by (nat_lt s.bus.taken t.bus.taken) s.bus.taken t.bus.taken refl all.bus.taken_from all.bus.taken_to;
      out = one_more s.bus.out t.bus.out all.bus.out.0 all.bus.out.1 all.bus.out.2;
      irq = all.irq;
      nmi = all.nmi;
      cycles = all.from;
    }

pub step_small : (given : List ℕ) (s t : State) → IsState s → length given < 2 ^ 64 → step (with_input given s) ≡ Ok t → IsSmall (change_of given s t)
unfolding change_of
step_small given s t h few made =
    let all = made_steps given s t h made in
    let pair : ℕ → ℕ × ℕ = λ a. (a, bit_xor (slice_index s.bus.memory a) (slice_index t.bus.memory a)) in
    record {
      cycles = omega (arith, all.from, all.to);
      reads = few_reads s t;
      stores = omega (arith, length-map (step_stores s t) pair, few_stored s t);
      given = few;
    }
