-- Lines of input, byte by byte.
use Rattle.std.proofs.Common.{◌≡◌, ◌≢◌, ℕ, zero, suc, ◌+◌, ◌-◌, ◌<◌, ◌≤◌, List, [], ◌∷◌, ◌++◌, length, Option, Some, None, refl, sym, ap, ◌∙◌, arith, append-nil, append_assoc, length-append, inl, inr}
use Rattle.std.proofs.Math.Nat.{sub-zero}
use Rattle.std.proofs.lemmas.Bool.Decides.{eqb_tells}
use Rattle.model.specs.Session.{Session}
use Rattle.model.specs.Event.{event_of}
use Rattle.model.specs.Transcript.{after_event, after_input}
use Rattle.model.specs.declared.event.Event.TheVariants as event
use Rattle.model.specs.State.{State}
use Rattle.model.specs.Effect.{operation_of}
use Rattle.model.specs.Operand.{address_at, address_in_page, effective_address, jump_target, next_byte, straight}
use Rattle.model.specs.declared.instruction.EffectiveAddress.{EffectiveAddress}
use Rattle.model.specs.declared.instruction.Mode.{Mode}
use Rattle.model.specs.declared.instruction.Mode.TheVariants as mode
use Rattle.model.specs.declared.instruction.Profile.{Profile}
use Rattle.model.specs.declared.instruction.Profile.TheVariants as profile
use Rattle.model.specs.declared.instruction.Row.{Row}
use Rattle.accesses.specs.Access.{access_by, access_here, access_of, row_here}
use Rattle.console.specs.Given.{given_to}
use Rattle.console.specs.Line.{line_at}

pub line-none : (room : ℕ) → line_at room [] ≡ []
unfolding line_at
line-none zero = refl
line-none (suc room) = refl

line-zero : (input : List ℕ) → line_at 0 input ≡ []
unfolding line_at
line-zero input = refl

line-lf : (room : ℕ) (rest : List ℕ) → line_at (suc room) (10 ∷ rest) ≡ 10 ∷ []
unfolding line_at
line-lf room rest = refl

line-byte : (room b : ℕ) (rest : List ℕ) → b ≢ 10 → line_at (suc room) (b ∷ rest) ≡ b ∷ line_at room rest
unfolding line_at
line-byte room b rest apart = elim (eqb_tells b 10) [
  | inl h ↦ absurd (apart h.1)
  | inr h ↦ rw h.0 refl
]

pub input-none : (s : Session) → after_input s [] ≡ s
unfolding after_input
input-none s = refl

pub input-append : (s : Session) (xs ys : List ℕ) → after_input s (xs ++ ys) ≡ after_input (after_input s xs) ys
unfolding after_input
input-append s [] ys = refl
input-append s (x ∷ xs) ys = input-append (after_event s (event_of s.current (event.Input x))) xs ys

-- some bytes of a line were read: what is left of the line is a line of what is left of the input
pub record Reads (room : ℕ) (told : List ℕ) : Type 0 where
  pub within : length told ≤ room
  pub goes_on : (rest : List ℕ) → line_at room (told ++ rest) ≡ told ++ line_at (room - length told) rest

pub reads_none : (room : ℕ) → Reads room []
reads_none room = record { within = omega arith; goes_on = λ rest. ap (λ n. line_at n rest) (sym (sub-zero room)) }

one_less : (room n : ℕ) → n < room → (m : ℕ) × (room - n ≡ suc m) × (room - (n + 1) ≡ m)
one_less room n h = (room - (n + 1), omega arith, refl)

pub reads_byte : (room b : ℕ) (told : List ℕ) → Reads room told → length told < room → b ≢ 10 → Reads room (told ++ b ∷ [])
reads_byte room b told r room_left apart =
    let size : length (told ++ b ∷ []) ≡ length told + 1 = length-append told (b ∷ []) in
    let less = one_less room (length told) room_left in
    record {
      within = omega arith;
      goes_on = λ rest.
          ap (line_at room) (append_assoc told (b ∷ []) rest) ∙ r.goes_on (b ∷ rest)
          ∙ ap (λ n. told ++ line_at n (b ∷ rest)) less.1 ∙ ap (λ l. told ++ l) (line-byte less.0 b rest apart)
          ∙ ap (λ n. told ++ b ∷ line_at n rest) (sym (ap (λ n. room - n) size ∙ less.2))
          ∙ sym (append_assoc told (b ∷ []) (line_at (room - length (told ++ b ∷ [])) rest));
    }

-- a line that an LF ends
pub reads_lf : (room : ℕ) (told : List ℕ) → Reads room told → length told < room
    → (rest : List ℕ) → line_at room ((told ++ 10 ∷ []) ++ rest) ≡ told ++ 10 ∷ []
reads_lf room told r room_left rest =
    let less = one_less room (length told) room_left in
    ap (line_at room) (append_assoc told (10 ∷ []) rest) ∙ r.goes_on (10 ∷ rest)
    ∙ ap (λ n. told ++ line_at n (10 ∷ rest)) less.1 ∙ ap (λ l. told ++ l) (line-lf less.0 rest)

-- a line that the end of the input ends
pub reads_end : (room : ℕ) (told : List ℕ) → Reads room told → (rest : List ℕ) → rest ≡ []
    → line_at room (told ++ rest) ≡ told
reads_end room told r rest e =
    r.goes_on rest ∙ ap (λ l. told ++ line_at (room - length told) l) e ∙ ap (λ l. told ++ l) (line-none (room - length told)) ∙ append-nil told

-- a line that the room ends
pub reads_full : (room : ℕ) (told : List ℕ) → Reads room told → room ≤ length told → (rest : List ℕ)
    → line_at room (told ++ rest) ≡ told
reads_full room told r full rest =
    let none : room - length told ≡ 0 = omega arith in
    r.goes_on rest ∙ ap (λ n. told ++ line_at n rest) none ∙ ap (λ l. told ++ l) (line-zero rest) ∙ append-nil told

-- ---- states

pub given-none : (state : State) → given_to state [] ≡ state
given-none state = ap (λ (l : List ℕ). record state { bus = record state.bus { given = l } }) (append-nil state.bus.given)

pub given-then : (state : State) (xs ys : List ℕ) → given_to (given_to state xs) ys ≡ given_to state (xs ++ ys)
given-then state xs ys = ap (λ (l : List ℕ). record state { bus = record state.bus { given = l } }) (append_assoc state.bus.given xs ys)

-- one byte more of a line was handed in
pub record Hands (s : Session) (told : List ℕ) (t : Session) : Type 0 where
  pub session : t ≡ after_input s told
  pub current : t.current ≡ given_to s.current told

pub hands_none : (s : Session) → Hands s [] s
hands_none s = record { session = sym (input-none s); current = sym (given-none s.current) }

pub hands_byte : (s t u : Session) (told : List ℕ) (b : ℕ) → Hands s told t → u ≡ after_input t (b ∷ [])
    → u.current ≡ given_to t.current (b ∷ []) → Hands s (told ++ b ∷ []) u
hands_byte s t u told b h e f = record {
  session = e ∙ ap (λ x. after_input x (b ∷ [])) h.session ∙ sym (input-append s told (b ∷ []));
  current = f ∙ ap (λ x. given_to x (b ∷ [])) h.current ∙ given-then s.current told (b ∷ []);
}

-- ---- what the instruction at PC touches

same_target : (profile : Profile) (state : State) (bytes : List ℕ) (pointer : ℕ)
    → jump_target profile (given_to state bytes).bus pointer ≡ jump_target profile state.bus pointer
unfolding jump_target address_at address_in_page
same_target profile.N state bytes pointer = refl
same_target profile.C state bytes pointer = refl

same_place : (state : State) (bytes : List ℕ) (mode : Mode) → effective_address (given_to state bytes).bus state.regs mode
    ≡ effective_address state.bus state.regs mode
unfolding effective_address address_at address_in_page
same_place state bytes mode.Imp = refl
same_place state bytes mode.Acc = refl
same_place state bytes mode.Imm = refl
same_place state bytes mode.Zp = refl
same_place state bytes mode.ZpX = refl
same_place state bytes mode.ZpY = refl
same_place state bytes mode.Abs = refl
same_place state bytes mode.AbsX = refl
same_place state bytes mode.AbsY = refl
same_place state bytes mode.IndX = refl
same_place state bytes mode.IndY = refl
same_place state bytes mode.Ind = ap straight (same_target state.bus.map.profile state bytes (address_at state.bus (next_byte state.regs)))
same_place state bytes mode.Rel = refl
same_place state bytes mode.IndZ = refl

-- it is the same after bytes of input
pub access_given : (state : State) (bytes : List ℕ) → access_here (given_to state bytes) ≡ access_here state
unfolding access_here
access_given state bytes = by (row_here state)
  where
    by : (row : Option Row) → access_by row (given_to state bytes) ≡ access_by row state
    by None = refl
    by (Some row) = ap (λ (place : EffectiveAddress). access_of (operation_of row.mnemonic) row.mode place.address) (same_place state bytes row.mode)
