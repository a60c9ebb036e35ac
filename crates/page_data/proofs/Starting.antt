-- A start that was written is read again.
use Rattle.std.proofs.Common.{◌≡◌, ◌∙◌, ℕ, zero, suc, ◌+◌, ◌*◌, ◌/◌, ◌%◌, ◌^◌, ◌<◌, Bool, true, false, cond, List, [], ◌∷◌, ◌++◌, length, take, drop, replicate, refl, sym, ap, arith, append_assoc}
use Rattle.std.specs.Prelude.{◌==◌, ◌&&◌, slice_index}
use Rattle.std.specs.Int.{w64, from_le_bytes}
use Rattle.std.proofs.lemmas.Bool.{eqb-true, false≢true}
use Rattle.std.proofs.lemmas.List.{drop_at, length-drop, length-take, take-append-drop, take_at}
use Rattle.std.proofs.lemmas.Nat.{from_le_bytes-to_le_bytes_8}
use Rattle.model.specs.Effect.{flags_of_byte}
use Rattle.model.specs.State.{IsState, Map, State}
use Rattle.page_data.specs.Format.{has_bit, signals_by}
use Rattle.page_data.specs.Start.{is_blank, lines_of, listed, listed_at, memory_at, number, number_at, page, pages, registers_of, start_at, start_bytes}
use Rattle.page_data.proofs.Reading.{has_control, has_irq, has_nmi}
use Rattle.page_data.proofs.Xor.{flags_again}

-- ---- memory

zero_first : (b : ℕ) (cells : List ℕ) (t : Bool) → (b == 0) ≡ t → (t && is_blank cells) ≡ true
    → (is_blank cells ≡ true → cells ≡ replicate (length cells) 0) → b ∷ cells ≡ 0 ∷ replicate (length cells) 0
zero_first b cells true is rest next = ap (λ (x : ℕ). x ∷ cells) (eqb-true b 0 is) ∙ ap (λ (l : List ℕ). 0 ∷ l) (next rest)
zero_first b cells false is rest next = absurd (false≢true rest)

zeros : (cells : List ℕ) → is_blank cells ≡ true → cells ≡ replicate (length cells) 0
unfolding is_blank
zeros [] e = refl
zeros (b ∷ cells) e = zero_first b cells (b == 0) refl e (λ rest. zeros cells rest)

abbrev behind : List ℕ → List ℕ × List ℕ → List ℕ × List ℕ
behind front rest = (front ++ rest.0, rest.1)

page_by : (blank : Bool) (n : ℕ) (cells rest : List ℕ) → is_blank cells ≡ blank → length cells ≡ 256
    → memory_at (suc n) (cond blank (0 ∷ []) (1 ∷ cells) ++ rest) ≡ behind cells (memory_at n rest)
unfolding memory_at
page_by true n cells rest is size =
    ap (λ (l : List ℕ). behind l (memory_at n rest)) (ap (λ (k : ℕ). replicate k 0) (sym size) ∙ sym (zeros cells is))
page_by false n cells rest is size =
    ap (λ (l : List ℕ). behind (take 256 (cells ++ rest)) (memory_at n l)) (drop_at cells rest 256 size)
    ∙ ap (λ (l : List ℕ). behind l (memory_at n rest)) (take_at cells rest 256 size)

page_again : (n : ℕ) (cells rest : List ℕ) → length cells ≡ 256 → memory_at (suc n) (page cells ++ rest) ≡ behind cells (memory_at n rest)
unfolding page
page_again n cells rest size = page_by (is_blank cells) n cells rest refl size

nothing : (memory : List ℕ) → length memory ≡ 0 → [] ≡ memory
nothing [] e = refl
nothing (b ∷ memory) e = absurd (omega (arith, e))

memory_again : (n : ℕ) (memory rest : List ℕ) → length memory ≡ 256 * n → memory_at n (pages n memory ++ rest) ≡ (memory, rest)
unfolding pages memory_at
memory_again zero memory rest size = ap (λ (l : List ℕ). (l, rest)) (nothing memory (omega (arith, size)))
memory_again (suc n) memory rest size =
    let front = take 256 memory in
    let back = drop 256 memory in
    let front_size : length front ≡ 256 = omega (arith, size, length-take 256 memory) in
    let back_size : length back ≡ 256 * n = omega (arith, size, length-drop 256 memory) in
    ap (memory_at (suc n)) (append_assoc (page front) (pages n back) rest)
    ∙ page_again n front (pages n back ++ rest) front_size
    ∙ ap (behind front) (memory_again n back rest back_size)
    ∙ ap (λ (l : List ℕ). (l, rest)) (take-append-drop 256 memory)

-- ---- numbers and lists

number_again : (n : ℕ) (rest : List ℕ) → n < 2 ^ 64 → number_at (number n ++ rest) ≡ (n, rest)
number_again n rest small =
    ap (λ (l : List ℕ). (from_le_bytes w64 l, drop 8 (number n ++ rest))) (take_at (number n) rest 8 refl)
    ∙ ap (λ (l : List ℕ). (from_le_bytes w64 (number n), l)) (drop_at (number n) rest 8 refl)
    ∙ ap (λ (k : ℕ). (k, rest)) (from_le_bytes-to_le_bytes_8 n small)

list_by : ℕ × List ℕ → List ℕ × List ℕ
list_by count = (take count.0 count.1, drop count.0 count.1)

listed_again : (bytes rest : List ℕ) → length bytes < 2 ^ 64 → listed_at (listed bytes ++ rest) ≡ (bytes, rest)
unfolding list_by
listed_again bytes rest small =
    ap (λ (l : List ℕ). list_by (number_at l)) (append_assoc (number (length bytes)) bytes rest)
    ∙ ap list_by (number_again (length bytes) (bytes ++ rest) small)
    ∙ ap (λ (l : List ℕ). (l, drop (length bytes) (bytes ++ rest))) (take_at bytes rest (length bytes) refl)
    ∙ ap (λ (l : List ℕ). (bytes, l)) (drop_at bytes rest (length bytes) refl)

-- ---- the state, part by part

whole : Map → List ℕ → List ℕ → ℕ → ℕ → ℕ → List ℕ → List ℕ × List ℕ → State × List ℕ
whole map memory regs cycles lines taken out given = (
  record {
    bus = record { map = map; memory = memory; given = given.0; taken = taken; out = out; control = has_bit 4 lines };
    regs = record {
      a = slice_index regs 0;
      x = slice_index regs 1;
      y = slice_index regs 2;
      s = slice_index regs 3;
      pc = slice_index regs 5 + 256 * slice_index regs 6;
      flags = flags_of_byte (slice_index regs 4);
    };
    irq = has_bit 8 lines;
    nmi = has_bit 16 lines;
    cycles = cycles;
  },
  given.1,
)

from_out : Map → List ℕ → List ℕ → ℕ → ℕ → ℕ → List ℕ × List ℕ → State × List ℕ
from_out map memory regs cycles lines taken out = whole map memory regs cycles lines taken out.0 (listed_at out.1)

from_taken : Map → List ℕ → List ℕ → ℕ → ℕ → ℕ × List ℕ → State × List ℕ
from_taken map memory regs cycles lines taken = from_out map memory regs cycles lines taken.0 (listed_at taken.1)

from_cycles : Map → List ℕ → List ℕ → ℕ × List ℕ → State × List ℕ
from_cycles map memory regs cycles = from_taken map memory regs cycles.0 (slice_index cycles.1 0) (number_at (drop 1 cycles.1))

from_memory : Map → List ℕ × List ℕ → State × List ℕ
from_memory map memory = from_cycles map memory.0 memory.1 (number_at (drop 7 memory.1))

begins : (map : Map) (bytes : List ℕ) → start_at map bytes ≡ from_memory map (memory_at 256 bytes)
unfolding start_at whole from_out from_taken from_cycles from_memory
begins map bytes = refl

assembled : (s : State) (more rest : List ℕ) → whole s.bus.map s.bus.memory (registers_of s ++ more) s.cycles (lines_of s) s.bus.taken s.bus.out
    (s.bus.given, rest) ≡ (s, rest)
unfolding whole registers_of
assembled s more rest =
    let control = has_control false false s.bus.control s.irq s.nmi false false in
    let irq = has_irq false false s.bus.control s.irq s.nmi false false in
    let nmi = has_nmi false false s.bus.control s.irq s.nmi false false in
    let pc : s.regs.pc % 256 + 256 * (s.regs.pc / 256) ≡ s.regs.pc = omega arith in
    let flags = flags_again s.regs.flags in
    λ i. (
      record {
        bus = record { map = s.bus.map; memory = s.bus.memory; given = s.bus.given; taken = s.bus.taken; out = s.bus.out; control = control i };
        regs = record { a = s.regs.a; x = s.regs.x; y = s.regs.y; s = s.regs.s; pc = pc i; flags = flags i };
        irq = irq i;
        nmi = nmi i;
        cycles = s.cycles;
      },
      rest,
    )

past_registers : (s : State) (more : List ℕ) → drop 7 (registers_of s ++ more) ≡ more
unfolding registers_of
past_registers s more = refl

pub start_again : (s : State) (rest : List ℕ) → IsState s → start_at s.bus.map (start_bytes s ++ rest) ≡ (s, rest)
unfolding start_bytes from_out from_taken from_cycles from_memory
start_again s rest h =
    let map = s.bus.map in
    let memory = pages 256 s.bus.memory in
    let regs = registers_of s in
    let cycles = number s.cycles in
    let taken = number s.bus.taken in
    let out = listed s.bus.out in
    let given = listed s.bus.given in
    let lines = lines_of s in
    let after_out = given ++ rest in
    let after_taken = out ++ after_out in
    let after_cycles = lines ∷ (taken ++ after_taken) in
    let after_memory = regs ++ (cycles ++ after_cycles) in
    let grouped : (memory ++ (regs ++ (cycles ++ (lines ∷ (taken ++ (out ++ given)))))) ++ rest ≡ memory ++ after_memory =
    append_assoc memory (regs ++ (cycles ++ (lines ∷ (taken ++ (out ++ given))))) rest
    ∙ ap (λ l. memory ++ l) (append_assoc regs (cycles ++ (lines ∷ (taken ++ (out ++ given)))) rest
    ∙ ap (λ l. regs ++ l) (append_assoc cycles (lines ∷ (taken ++ (out ++ given))) rest
    ∙ ap (λ l. cycles ++ lines ∷ l) (append_assoc taken (out ++ given) rest
    ∙ ap (λ l. taken ++ l) (append_assoc out given rest)))) in
    let taken_small : s.bus.taken < 2 ^ 64 = omega (arith, h.bus.taken, h.bus.given_room) in
    let out_small : length s.bus.out < 2 ^ 64 = omega (arith, h.bus.out_room) in
    let given_small : length s.bus.given < 2 ^ 64 = omega (arith, h.bus.given_room) in
    ap (start_at map) grouped
    ∙ begins map (memory ++ after_memory)
    ∙ ap (from_memory map) (memory_again 256 s.bus.memory after_memory h.bus.size)
    ∙ ap (λ l. from_cycles map s.bus.memory after_memory (number_at l)) (past_registers s (cycles ++ after_cycles))
    ∙ ap (from_cycles map s.bus.memory after_memory) (number_again s.cycles after_cycles h.cycles)
    ∙ ap (from_taken map s.bus.memory after_memory s.cycles lines) (number_again s.bus.taken after_taken taken_small)
    ∙ ap (from_out map s.bus.memory after_memory s.cycles lines s.bus.taken) (listed_again s.bus.out after_out out_small)
    ∙ ap (whole map s.bus.memory after_memory s.cycles lines s.bus.taken s.bus.out) (listed_again s.bus.given rest given_small)
    ∙ assembled s (cycles ++ after_cycles) rest

-- ---- written part by part

pub start_joined : (old a b c d e f g memory regs cycles taken out given : List ℕ) (lines : ℕ) → a ≡ old ++ memory → b ≡ a ++ regs → c ≡ b ++ cycles
    → d ≡ c ++ lines ∷ [] → e ≡ d ++ taken → f ≡ e ++ out → g ≡ f ++ given
    → g ≡ old ++ (memory ++ (regs ++ (cycles ++ lines ∷ (taken ++ (out ++ given)))))
start_joined old a b c d e f g memory regs cycles taken out given lines ea eb ec ed ee ef eg =
    let x1 = out ++ given in
    let x2 = taken ++ x1 in
    let x3 = lines ∷ x2 in
    let x4 = cycles ++ x3 in
    let x5 = regs ++ x4 in
    eg ∙ ap (λ (l : List ℕ). l ++ given) ef ∙ append_assoc e out given
    ∙ ap (λ (l : List ℕ). l ++ x1) ee ∙ append_assoc d taken x1
    ∙ ap (λ (l : List ℕ). l ++ x2) ed ∙ append_assoc c (lines ∷ []) x2
    ∙ ap (λ (l : List ℕ). l ++ x3) ec ∙ append_assoc b cycles x3
    ∙ ap (λ (l : List ℕ). l ++ x4) eb ∙ append_assoc a regs x4
    ∙ ap (λ (l : List ℕ). l ++ x5) ea ∙ append_assoc old memory x5

pub start_pushed : (s : State) (old a b c d e f g : List ℕ) (taken : ℕ) → taken ≡ s.bus.taken
    → a ≡ old ++ pages 256 s.bus.memory → b ≡ a ++ registers_of s → c ≡ b ++ number s.cycles → d ≡ c ++ lines_of s ∷ [] → e ≡ d ++ number taken
    → f ≡ e ++ listed s.bus.out → g ≡ f ++ listed s.bus.given
    → g ≡ old ++ start_bytes s
unfolding start_bytes
start_pushed s old a b c d e f g taken is_taken ea eb ec ed ee ef eg =
    let memory = pages 256 s.bus.memory in
    let regs = registers_of s in
    let cycles = number s.cycles in
    let out = listed s.bus.out in
    let given = listed s.bus.given in
    start_joined old a b c d e f g memory regs cycles (number taken) out given (lines_of s) ea eb ec ed ee ef eg
    ∙ ap (λ (n : ℕ). old ++ (memory ++ (regs ++ (cycles ++ lines_of s ∷ (number n ++ (out ++ given)))))) is_taken
