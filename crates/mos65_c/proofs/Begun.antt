-- A machine that begins where another one is: its image has no byte at the port, and its registers are those of the
-- other one.
use Rattle.std.proofs.Common.{◌≡◌, ◌≢◌, ◌∙◌, ℕ, zero, suc, ◌+◌, ◌*◌, ◌/◌, ◌%◌, ◌<◌, ◌≤◌, Bool, true, false, ◌⊎◌, inl, inr, List, [], ◌∷◌, length, take, drop, replicate, set, get_or, Option, None, Some, refl, sym, ap, arith}
use Rattle.std.specs.Prelude.{◌==◌, is_some}
use Rattle.std.proofs.lemmas.Bool.Decides.{nat_tests}
use Rattle.std.proofs.lemmas.List.{drop_all, get_or-set_other, length-take-le}
use Rattle.model.specs.Arithmetic.{bit, is_minus}
use Rattle.model.specs.Effect.{flags_of_byte}
use Rattle.model.specs.Effect.{status as status_byte}
use Rattle.model.specs.Event.{event_of, set_to, start}
use Rattle.model.specs.Image.{empty_image, has_byte, with_bytes}
use Rattle.model.specs.Session.{Session, new_session}
use Rattle.model.specs.State.{Map, State, has_port_byte}
use Rattle.model.specs.declared.registers.Flags.{Flags}
use Rattle.model.specs.declared.registers.Regs.{Regs}
use Rattle.mos65_c.specs.From.{AnswersFrom, begun_from, image_beside, register_events}
use Rattle.mos65_c.specs.Status.{config_map, config_status, port_of}
use Rattle.mos65_c.specs.declared.config.Config.{Config}
use Rattle.rig.specs.Subroutine.{after_event, after_events}

abbrev Cells : Type 0
Cells = List (Option ℕ)

-- ---- the image

outside : (bytes : List ℕ) (cells : Cells) (a k : ℕ) → (k < a) ⊎ (a + length bytes ≤ k) → get_or (with_bytes cells a bytes) k None ≡ get_or cells k None
outside [] cells a k h = refl
outside (b ∷ bytes) cells a k (inl below) =
    outside bytes (set cells a (Some b)) (a + 1) k (inl (omega (arith, below))) ∙ get_or-set_other cells a k (Some b) None (λ e. omega (arith, below, e))
outside (b ∷ bytes) cells a k (inr above) =
    outside bytes (set cells a (Some b)) (a + 1) k (inr (omega (arith, above))) ∙ get_or-set_other cells a k (Some b) None (λ e. omega (arith, above, e))

none_at : (n k : ℕ) → get_or (replicate {A = Option ℕ} n None) k None ≡ None
none_at zero k = refl
none_at (suc n) zero = refl
none_at (suc n) (suc k) = none_at n k

empty_is : (n : ℕ) → n ≡ 65536 → replicate {A = Option ℕ} n None ≡ empty_image
unfolding empty_image
empty_is n e = ap (λ (k : ℕ). replicate {A = Option ℕ} k None) e

empty_at : (n k : ℕ) → n ≡ 65536 → get_or empty_image k None ≡ None
empty_at n k e = ap (λ (c : Cells). get_or c k None) (sym (empty_is n e)) ∙ none_at n k

spared : (port k : ℕ) (memory : List ℕ) → port ≤ k → k < port + 4 → port ≤ length memory → has_byte (image_beside port memory) k ≡ false
unfolding has_byte
spared port k memory low high room =
    let size = length-take-le port memory room in
    ap (λ (c : Option ℕ). is_some c)
    (outside (drop (port + 4) memory) (with_bytes empty_image 0 (take port memory)) (port + 4) k (inl high)
    ∙ outside (take port memory) empty_image 0 k (inr (omega (arith, size, low)))
    ∙ empty_at 65536 k refl)

pub no_port_byte : (map : Map) (memory : List ℕ) → map.port ≤ length memory → has_port_byte map (image_beside map.port memory) ≡ false
unfolding has_port_byte
no_port_byte map memory room =
    let at : (j : ℕ) → j < 4 → has_byte (image_beside map.port memory) (map.port + j) ≡ false =
    λ j small. spared map.port (map.port + j) memory (omega arith) (omega (arith, small)) room in
    let first : has_byte (image_beside map.port memory) map.port ≡ false = spared map.port map.port memory (omega arith) (omega arith) room in
    rw (first, at 1 (omega arith), at 2 (omega arith), at 3 (omega arith)) refl

-- The bytes past the end are none.
pub nothing_above : (image : Cells) (at : ℕ) (memory : List ℕ) → length memory ≤ at → with_bytes image at (drop at memory) ≡ image
nothing_above image at memory past = ap (λ (bytes : List ℕ). with_bytes image at bytes) (drop_all at memory past)

-- ---- the registers

bit_small : (b : Bool) → bit b < 2
bit_small true = omega arith
bit_small false = omega arith

bit_is : (b : Bool) → (bit b == 1) ≡ b
bit_is true = refl
bit_is false = refl

from_bit : (x : ℕ) (b : Bool) → x ≡ bit b → (x == 1) ≡ b
from_bit x b e = ap (λ y. y == 1) e ∙ bit_is b

minus_is : (x low : ℕ) (b : Bool) → x ≡ 128 * bit b + low → low < 128 → is_minus x ≡ b
minus_is x low true e small = grind (arith, nat_tests)
minus_is x low false e small = grind (arith, nat_tests)

flags_again : (f : Flags) → flags_of_byte (status_byte false f) ≡ f
unfolding status_byte flags_of_byte
flags_again f =
    let n1 = bit_small f.n in
    let v1 = bit_small f.v in
    let d1 = bit_small f.d in
    let i1 = bit_small f.i in
    let z1 = bit_small f.z in
    let c1 = bit_small f.c in
    let low = 64 * bit f.v + 32 + 8 * bit f.d + 4 * bit f.i + 2 * bit f.z + bit f.c in
    let x = 128 * bit f.n + 64 * bit f.v + 32 + 16 * bit false + 8 * bit f.d + 4 * bit f.i + 2 * bit f.z + bit f.c in
    let n = minus_is x low f.n (omega arith) (omega arith) in
    let v = from_bit (x / 64 % 2) f.v (omega arith) in
    let d = from_bit (x / 8 % 2) f.d (omega arith) in
    let i' = from_bit (x / 4 % 2) f.i (omega arith) in
    let z = from_bit (x / 2 % 2) f.z (omega arith) in
    let c = from_bit (x % 2) f.c (omega arith) in
    λ k. record { n = n k; v = v k; d = d k; i = i' k; z = z k; c = c k }

registers_again : (s : Session) (regs : Regs) → (after_events s (register_events regs)).current.regs ≡ regs
unfolding after_event event_of set_to
registers_again s regs = λ k. record { a = regs.a; x = regs.x; y = regs.y; s = regs.s; pc = regs.pc; flags = flags_again regs.flags k }

pub begun_regs : (c : Config) (state : State) → (begun_from c state).current.regs ≡ state.regs
unfolding begun_from
begun_regs c state = registers_again _ state.regs

-- ---- the answer

abbrev found : Session → Option Session
found s = Some s

pub same_session : (x : Option Session) (a b : Session) → x ≡ Some a → x ≡ Some b → a ≡ b
same_session x a b e f = let h : found a ≡ found b = sym e ∙ f in cc

pub begun : (c : Config) (state : State) (own : Map) (image : List (Option ℕ)) (memory : List ℕ) (port : ℕ) (regs : Regs) (status : ℕ) (now : Option Session)
    → own ≡ config_map c → config_status c ≡ 0 → memory ≡ state.bus.memory → length memory ≡ 65536 → port ≡ own.port → port ≤ 65536
    → image ≡ image_beside port memory → regs ≡ state.regs
    → (status ≡ 0 → now ≡ Some (after_events (new_session c.history (start own image)) (register_events regs)))
    → (status ≢ 0 → now ≡ None)
    → (has_port_byte own image ≡ false → status ≢ 3 → status ≢ 206 → status ≡ 0)
    → AnswersFrom c state status now
unfolding begun_from
begun c state own image memory port regs status now is fine bytes size at within made told ok same spare =
    let place : port ≡ port_of c = at ∙ ap (λ (m : Map). m.port) is in
    let whole : image ≡ image_beside (port_of c) state.bus.memory = made ∙ (λ i. image_beside (place i) (bytes i)) in
    let room : own.port ≤ length memory = omega (arith, at, within, size) in
    let free : has_port_byte own image ≡ false =
    ap (has_port_byte own) (made ∙ ap (λ (p : ℕ). image_beside p memory) at) ∙ no_port_byte own memory room in
    record {
      refused = λ bad. absurd (bad fine);
      ok = λ e. ok e ∙ (λ i. found (after_events (new_session c.history (start (is i) (whole i))) (register_events (told i))));
      regs = λ e. begun_regs c state;
      same = same;
      right = λ e. spare free;
    }
