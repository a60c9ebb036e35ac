-- A plain step at an address that was written is a turn: no line is asked for, nothing ends the run, and
-- no address more is written. So many such steps are as many turns.
use Rattle.std.proofs.Common.{◌≡◌, ◌∙◌, ℕ, zero, suc, ◌+◌, ◌-◌, ◌<◌, ◌≤◌, Bool, true, false, true≢false, cond, List, [], ◌∷◌, length, Option, Some, None, refl, sym, ap, subst, arith, inl, inr}
use Rattle.std.specs.Prelude.{◌||◌, ◌&&◌, ◌==◌, not, slice_index, slice_set}
use Rattle.std.specs.List.{All}
use Rattle.std.proofs.Math.Nat.{sub-zero}
use Rattle.std.proofs.lemmas.Bool.Decides.{eqb_tells, nat_tests}
use Rattle.std.proofs.lemmas.List.Elements.{All-head, All-tail}
use Rattle.std.proofs.lemmas.List.{length-set}
use Rattle.model.specs.State.{Bus, Map, State, IsState, is_port, input_waits}
use Rattle.model.specs.Step.{step}
use Rattle.model.specs.Session.{Session, with_state}
use Rattle.model.specs.Run.{after_steps}
use Rattle.cpu.specs.PlainRuns.{AllPlain, AllPlainButLast, IsPlainStep}
use Rattle.cpu_step.specs.PlainSteps.{IsFree, is_break, is_port_read, stays}
use Rattle.law_sessions.proofs.Runs.{after_steps-zero}
use Rattle.law_states.proofs.Steps.{step_follows}
use Rattle.debugger.proofs.PlainRuns.{after_one, session_at, session_next}
use Rattle.debugger.proofs.Runs.{event_is_step}
use Rattle.accesses.specs.Access.{access_here, puts_byte, row_here}
use Rattle.accesses.specs.Footprint.{stores_here}
use Rattle.accesses.specs.Looking.{is_input_address, looks}
use Rattle.accesses.specs.Moments.{entered, moment_of, step_stores, stored_by}
use Rattle.accesses.specs.Writing.{AreMarks, is_unmarked, is_written, with_bytes}
use Rattle.accesses.proofs.Bytes.{not_forgotten, set_written, still_written}
use Rattle.accesses.proofs.Entries.{entered_is}
use Rattle.console.specs.Playing.{asks, ending_before, ending_here, fall_of, is_at, later, memo_after, played, stands, stepped, stray_of, turn_of, unless_ended, after_turn, Outcome, Play}
use Rattle.console.specs.Stretches.{Bound, Glides, going, is_place}
use Rattle.console.specs.Taking.{Waits}
use Rattle.console.specs.Turns.{Known, TurnsTo, play_at, turn_to}
use Rattle.console.specs.declared.ending.Ending.TheVariants.{NoVector, Until}
use Rattle.console.proofs.Lines.{input-none}
use Rattle.console.proofs.Turning.{later_none, later_twice, made, played_turn, turned}

-- ---- marks

written_where : (marks : List ℕ) (cells : List Bool) (address : ℕ) → AreMarks marks cells → address < length cells → slice_index marks address ≡ 0
    → is_written cells address ≡ true
written_where marks cells address are within zero_mark = are address within ∙ ap is_unmarked zero_mark

-- the place is not written
pub bound_off : (marks : List ℕ) (cells : List Bool) (place : Option ℕ) → length cells ≡ 65536 → AreMarks marks cells
    → ((address : ℕ) → place ≡ Some address → is_written cells address ≡ false) → Bound marks cells place
bound_off marks cells place size are off = (
  size,
  λ address within zero_mark.
      let is = written_where marks cells address are within zero_mark in (is, away place address is off),
)
  where
    away : (place : Option ℕ) (address : ℕ) → is_written cells address ≡ true → ((at' : ℕ) → place ≡ Some at' → is_written cells at' ≡ false)
        → is_place place address ≡ false
    away None address is off = refl
    away (Some at') address is off = elim (eqb_tells address at') [
      | inr differs ↦ differs.0
      | inl same ↦ absurd (true≢false (sym is ∙ ap (is_written cells) same.1 ∙ off at' refl))
    ]

-- the place was written, and is forgotten for a time
pub bound_at : (marks : List ℕ) (cells : List Bool) (place : ℕ) → length (slice_set cells place false) ≡ 65536
    → AreMarks marks (slice_set cells place false) → Bound marks cells (Some place)
bound_at marks cells place size are =
    let same : length (slice_set cells place false) ≡ length cells = length-set cells place false in (
      sym same ∙ size,
      λ address within zero_mark.
          let is = written_where marks (slice_set cells place false) address are (subst (λ n. address < n) (sym same) within) zero_mark in (
            still_written cells place address is,
            elim (eqb_tells address place) [
              | inr differs ↦ differs.0
              | inl eq ↦ absurd (true≢false (sym is ∙ ap (is_written (slice_set cells place false)) eq.1 ∙ not_forgotten cells place))
            ],
          ),
    )

pub at_place : (place : Option ℕ) (state : State) → is_at place state ≡ is_place place state.regs.pc
at_place None state = refl
at_place (Some address) state = refl

-- stores where bytes were written
stores_kept : (marks : List ℕ) (cells : List Bool) (place : Option ℕ) (map : Map) → Bound marks cells place → (stores : List ℕ)
    → All (IsFree marks map) stores → with_bytes cells stores ≡ cells
unfolding with_bytes
stores_kept marks cells place map bound [] free = refl
stores_kept marks cells place map bound (x ∷ xs) free =
    let first = All-head (IsFree marks map) x xs free in
    ap (λ u. with_bytes u xs) (set_written cells x (λ within. (bound.1 x within first.1).0))
    ∙ stores_kept marks cells place map bound xs (All-tail (IsFree marks map) x xs free)

-- ---- a plain step is a turn

-- what is known between plain steps
abbrev pub gliding : List Bool → Option ℕ → Known
gliding cells from = record { memo = record { rests = false; idle = None; from = from }; written = cells }

pub is_gliding : (k : Known) → k.memo.rests ≡ false → k.memo.idle ≡ None → k ≡ gliding k.written k.memo.from
is_gliding k rests idle = λ i. record { memo = record { rests = rests i; idle = idle i; from = k.memo.from }; written = k.written }

no_input_by : (map : Map) (address : ℕ) → is_port map address ≡ false → ((address == map.port + 1) || (address == map.port + 2)) ≡ false
unfolding is_port
no_input_by map address plain = grind (arith, nat_tests)

no_input : (map : Map) (read : Option ℕ) → is_port_read map read ≡ false → is_input_address map read ≡ false
no_input map None plain = refl
no_input map (Some address) plain = no_input_by map address plain

and_false : (b : Bool) → (b && false) ≡ false
and_false true = refl
and_false false = refl

no_line : (cells : List Bool) (from : Option ℕ) (s : State) → is_port_read s.bus.map (access_here s).read ≡ false → asks (gliding cells from).memo s ≡ false
unfolding asks looks
no_line cells from s plain = ap (λ b. not (input_waits s.bus) && b) (no_input s.bus.map (access_here s).read plain) ∙ and_false (not (input_waits s.bus))

no_ending : (cells : List Bool) (from : Option ℕ) (s : State) → is_written cells s.regs.pc ≡ true → is_break (row_here s) ≡ false
    → ending_here (gliding cells from).memo cells false false s ≡ None
unfolding ending_before fall_of
no_ending cells from s is other =
    let why = stray_of cells from in
    ap (λ b. cond (not b) (Some why) (cond (is_break (row_here s) && not (stands cells 0xFFFE)) (Some NoVector) None)) is
    ∙ ap (λ b. cond (b && not (stands cells 0xFFFE)) (Some NoVector) None) other

same_either : {X : Type 0} (x : X) (b : Bool) → x ≡ cond b x x
same_either x true = refl
same_either x false = refl

memo_kept : (cells : List Bool) (from : Option ℕ) (s t : State) → stays s.regs t.regs ≡ false
    → (gliding cells (Some s.regs.pc)).memo ≡ memo_after (gliding cells from).memo false false s t.regs
unfolding memo_after
memo_kept cells from s t moves = λ i. record { rests = sym moves i; idle = same_either None (puts_byte (access_here s)) i; from = Some s.regs.pc }

not_entered : (marks : List ℕ) (s t : State) → IsPlainStep marks s t → entered (moment_of s) t ≡ false
not_entered marks s t plain = entered_is s t (ap (λ (bus : Bus). bus.given) plain.rest) ∙ plain.entry

written_kept : (marks : List ℕ) (cells : List Bool) (place : Option ℕ) (s t : State) → Bound marks cells place → IsPlainStep marks s t
    → cells ≡ with_bytes cells (step_stores s t)
written_kept marks cells place s t bound plain =
    sym (ap (λ b. with_bytes cells (stored_by b s.regs.s (stores_here s))) (not_entered marks s t plain)
    ∙ stores_kept marks cells place s.bus.map bound (stores_here s) plain.plain.stores)

plain_turn : (marks : List ℕ) (cells : List Bool) (place from : Option ℕ) (s : Session) (t : State) → Bound marks cells place
    → is_written cells s.current.regs.pc ≡ true → IsPlainStep marks s.current t
    → (input : List ℕ) → turn_of (play_at s (gliding cells from) input) ≡ turn_to None (with_state s t) (gliding cells (Some s.current.regs.pc)) input
plain_turn marks cells place from s t bound is plain input =
    let k = gliding cells from in
    turned s s k [] input false false false (sym (no_line cells from s.current plain.plain.read)) (λ rest may. refl)
    (λ over. absurd (true≢false (sym over))) (sym (input-none s)) refl
    ∙ ap (λ e. unless_ended e (play_at s k input) (stepped (play_at s k input) false false (step s.current)))
    (no_ending cells from s.current is plain.plain.no_break)
    ∙ made s (with_state s t) t k (gliding cells (Some s.current.regs.pc)) input false false (event_is_step s.current ∙ plain.made) refl
    (memo_kept cells from s.current t plain.plain.moves)
    (written_kept marks cells place s.current t bound plain)

plain_glide : (marks : List ℕ) (cells : List Bool) (place from : Option ℕ) (s : Session) (t : State) → Bound marks cells place
    → is_at place s.current ≡ false → is_written cells s.current.regs.pc ≡ true → IsPlainStep marks s.current t
    → Glides place 1 s (gliding cells from) (with_state s t) (gliding cells (Some s.current.regs.pc))
plain_glide marks cells place from s t bound off is plain = λ limit input within.
    let k = gliding cells from in
    let after = play_at (with_state s t) (gliding cells (Some s.current.regs.pc)) input in
    let one : limit ≡ suc (limit - 1) = omega arith in
    ap (λ b. cond b (record { steps = 0; ending = Until; play = play_at s k input }) (played place limit (play_at s k input))) off
    ∙ played_turn place limit (limit - 1) (play_at s k input) one
    ∙ ap (λ turn. after_turn place turn (λ q. played place (limit - 1) q)) (plain_turn marks cells place from s t bound is plain input)
    ∙ next_by (is_at place t) after (played place (limit - 1) after)
  where
    next_by : (b : Bool) (p : Play) (o : Outcome) → cond b (record { steps = 1; ending = Until; play = p }) (later 1 o)
        ≡ later 1 (cond b (record { steps = 0; ending = Until; play = p }) o)
    next_by true p o = refl
    next_by false p o = refl

-- ---- many plain steps

pub glides_none : (place : Option ℕ) (s : Session) (k : Known) → Glides place 0 s k s k
glides_none place s k = λ limit input within. ap (λ n. going place n (play_at s k input)) (sym (sub-zero limit))
    ∙ sym (later_none (going place (limit - 0) (play_at s k input)))

glides_on : (place : Option ℕ) (n m : ℕ) (s t u : Session) (k l o : Known) → Glides place n s k t l → Glides place m t l u o → Glides place (n + m) s k u o
glides_on place n m s t u k l o h g = λ limit input within.
    let first : n ≤ limit = omega arith in
    let second : m ≤ limit - n = omega arith in
    let left : limit - n - m ≡ limit - (n + m) = omega arith in
    h limit input first ∙ ap (later n) (g (limit - n) input second) ∙ later_twice n m _
    ∙ ap (λ j. later (n + m) (going place j (play_at u o input))) left

-- what the console gave and got is the same
pub record SameConsole (s t : State) : Type 0 where
  pub out : t.bus.out ≡ s.bus.out
  pub taken : t.bus.taken ≡ s.bus.taken
  pub given : t.bus.given ≡ s.bus.given

same_then : (marks : List ℕ) (s m t : State) → SameConsole s m → IsPlainStep marks m t → SameConsole s t
same_then marks s m t same plain = record {
  out = ap (λ (bus : Bus). bus.out) plain.rest ∙ same.out;
  taken = ap (λ (bus : Bus). bus.taken) plain.rest ∙ same.taken;
  given = ap (λ (bus : Bus). bus.given) plain.rest ∙ same.given;
}

-- where some plain steps have led, and none to a stop
record Glided (cells : List Bool) (place : Option ℕ) (n : ℕ) (s : Session) (from : Option ℕ) (m : State) (last : Option ℕ) : Type 0 where
  state : IsState m
  off : is_at place m ≡ false
  is : is_written cells m.regs.pc ≡ true
  same : SameConsole s.current m
  far : Glides place n s (gliding cells from) (after_steps n s) (gliding cells last)

last_glide : (marks : List ℕ) (cells : List Bool) (place from last : Option ℕ) (n : ℕ) (s : Session) (m t : State) → Bound marks cells place
    → AllPlain marks marks n s.current m → Glided cells place n s from m last → IsPlainStep marks m t
    → Glides place (suc n) s (gliding cells from) (after_steps (suc n) s) (gliding cells (Some m.regs.pc))
last_glide marks cells place from last n s m t bound all h plain =
    let here = session_at marks marks n s m all in
    let one = plain_glide marks cells place last (after_steps n s) t bound (ap (is_at place) here ∙ h.off)
    (ap (λ (x : State). is_written cells x.regs.pc) here ∙ h.is)
    (subst (λ (x : State). IsPlainStep marks x t) (sym here) plain) in
    let both = glides_on place n 1 s (after_steps n s) (with_state (after_steps n s) t) (gliding cells from) (gliding cells last)
    (gliding cells (Some (after_steps n s).current.regs.pc)) h.far one in
    let count : n + 1 ≡ suc n = omega arith in
    subst (λ k. Glides place k s (gliding cells from) (after_steps (suc n) s) (gliding cells (Some m.regs.pc))) count
    (subst (λ (x : State). Glides place (n + 1) s (gliding cells from) (after_steps (suc n) s) (gliding cells (Some x.regs.pc))) here
    (subst (λ u. Glides place (n + 1) s (gliding cells from) u (gliding cells (Some (after_steps n s).current.regs.pc)))
    (session_next n s m t here plain.made) both))

glided : (marks : List ℕ) (cells : List Bool) (place from : Option ℕ) (n : ℕ) (s : Session) (m : State) → Bound marks cells place → IsState s.current
    → is_at place s.current ≡ false → is_written cells s.current.regs.pc ≡ true
    → AllPlain marks marks n s.current m → (last : Option ℕ) × Glided cells place n s from m last
glided marks cells place from zero s m bound state off is all = (
  from,
  subst (λ (x : State). Glided cells place 0 s from x from) (sym all) (record {
    state = state;
    off = off;
    is = is;
    same = record { out = refl; taken = refl; given = refl };
    far = subst (λ u. Glides place 0 s (gliding cells from) u (gliding cells from)) (sym (after_steps-zero step s)) (glides_none place s (gliding cells from));
  }),
)
glided marks cells place from (suc n) s m bound state off is all =
    let before = glided marks cells place from n s all.0 bound state off is all.1 in
    let plain = all.2.step in
    let now = (step_follows all.0 m before.1.state plain.made).state in
    let free = bound.1 m.regs.pc (subst (λ k. m.regs.pc < k) (sym bound.0) now.regs.pc) all.2.pass in (
      Some all.0.regs.pc,
      record {
        state = now;
        off = at_place place m ∙ free.1;
        is = free.0;
        same = same_then marks s.current all.0 m before.1.same plain;
        far = last_glide marks cells place from before.0 n s all.0 m bound all.1 before.1 plain;
      },
    )

-- a whole stretch, whose last step may lead to a stop
pub glides_all : (marks : List ℕ) (cells : List Bool) (place from : Option ℕ) (n at' : ℕ) (s u : Session) → Bound marks cells place
    → IsState s.current → is_at place s.current ≡ false → is_written cells s.current.regs.pc ≡ true
    → 0 < n → AllPlainButLast marks marks n at' s.current u.current → u ≡ after_steps n s
    → Glides place n s (gliding cells from) u (gliding cells (Some at')) × SameConsole s.current u.current
glides_all marks cells place from zero at' s u bound state off is some all end = absurd (omega arith)
glides_all marks cells place from (suc n) at' s u bound state off is some all end =
    let less : suc n - 1 ≡ n = omega arith in
    let steps = subst (λ k. AllPlain marks marks k s.current all.0) less all.1 in
    let before = glided marks cells place from n s all.0 bound state off is steps in (
      subst (λ v. Glides place (suc n) s (gliding cells from) v (gliding cells (Some at'))) (sym end)
          (subst (λ pc. Glides place (suc n) s (gliding cells from) (after_steps (suc n) s) (gliding cells (Some pc))) (sym all.3)
          (last_glide marks cells place from before.0 n s all.0 u.current bound steps before.1 all.2)),
      same_then marks s.current all.0 u.current before.1.same all.2,
    )

-- what is known then, but for where the last step was made
pub glides_known : (place : Option ℕ) (n : ℕ) (s u : Session) (k : Known) (cells : List Bool) (at' : ℕ) → k.memo.rests ≡ false → k.memo.idle ≡ None
    → cells ≡ k.written
    → Glides place n s (gliding k.written k.memo.from) u (gliding k.written (Some at'))
    → Glides place n s k u (record { memo = record { rests = k.memo.rests; idle = k.memo.idle; from = Some at' }; written = cells })
glides_known place n s u k cells at' rests idle same far =
    let after : record { memo = record { rests = k.memo.rests; idle = k.memo.idle; from = Some at' }; written = cells } ≡ gliding k.written (Some at')
    = λ i. record { memo = record { rests = rests i; idle = idle i; from = Some at' }; written = same i } in
    subst (λ (l : Known). Glides place n s k u l) (sym after)
    (subst (λ (l : Known). Glides place n s l u (gliding k.written (Some at'))) (sym (is_gliding k rests idle)) far)

-- no step
pub glides_nowhere : (place : Option ℕ) (s u : Session) (k : Known) (cells : List Bool) → u ≡ s → cells ≡ k.written
    → Glides place 0 s k u (record { memo = k.memo; written = cells })
glides_nowhere place s u k cells at' same =
    subst (λ (v : Session). Glides place 0 s k v (record { memo = k.memo; written = cells })) (sym at')
    (subst (λ (w : List Bool). Glides place 0 s k s (record { memo = k.memo; written = w })) (sym same) (glides_none place s k))

pub same_waits : (s t : State) (waiting : ℕ) → SameConsole s t → Waits s waiting → Waits t waiting
same_waits s t waiting same waits = ap (λ n. n + waiting) same.taken ∙ waits ∙ sym (ap length same.given)

-- ---- one plain step by itself

-- a plain step leads from one session to another, from an address
pub record StepsPlainly (marks : List ℕ) (at' : ℕ) (s u : Session) : Type 0 where
  pub plain : IsPlainStep marks s.current u.current
  pub from : at' ≡ s.current.regs.pc
  pub after : u ≡ with_state s u.current

pub steps_plainly : (marks : List ℕ) (n at' : ℕ) (s u : Session) → 0 < n → n ≤ 1 → AllPlainButLast marks marks n at' s.current u.current
    → u ≡ after_steps n s → StepsPlainly marks at' s u
steps_plainly marks n at' s u some one all end =
    let none : n - 1 ≡ 0 = omega arith in
    let here : all.0 ≡ s.current = subst (λ k. AllPlain marks marks k s.current all.0) none all.1 in
    let plain = subst (λ (x : State). IsPlainStep marks x u.current) here all.2 in
    record {
      plain = plain;
      from = all.3 ∙ ap (λ (x : State). x.regs.pc) here;
      after = end ∙ sym (after_one n s u.current plain.made some one);
    }

-- it is a turn, and no interrupt entry
pub turns_plainly : (marks : List ℕ) (k : Known) (at' : ℕ) (over : Bool) (s u : Session) → k.memo.rests ≡ false → k.memo.idle ≡ None
    → AreMarks marks k.written → length k.written ≡ 65536 → is_written k.written s.current.regs.pc ≡ true
    → StepsPlainly marks at' s u → TurnsTo s k [] over None u
    (record { memo = record { rests = k.memo.rests; idle = k.memo.idle; from = Some at' }; written = k.written })
turns_plainly marks k at' over s u rests idle are size is h = λ rest may.
    let bound = bound_off marks k.written None size are (λ address none. absurd cc) in
    let after : gliding k.written (Some s.current.regs.pc) ≡ record
    { memo = record { rests = k.memo.rests; idle = k.memo.idle; from = Some at' }; written = k.written }
    = λ i. record { memo = record { rests = sym rests i; idle = sym idle i; from = Some (sym h.from i) }; written = k.written } in
    ap (λ (l : Known). turn_of (play_at s l rest)) (is_gliding k rests idle)
    ∙ plain_turn marks k.written None k.memo.from s u.current bound is h.plain rest
    ∙ ap (λ (l : Known). turn_to None (with_state s u.current) l rest) after
    ∙ ap (λ (v : Session). turn_to None v (record {
      memo = record { rests = k.memo.rests; idle = k.memo.idle; from = Some at' };
      written =
          k.written;
    }) rest) (sym h.after)

pub no_entry_made : (marks : List ℕ) (at' : ℕ) (s u : Session) → StepsPlainly marks at' s u → entered (moment_of s.current) u.current ≡ false
no_entry_made marks at' s u h = not_entered marks s.current u.current h.plain

pub same_console : (marks : List ℕ) (at' : ℕ) (s u : Session) → StepsPlainly marks at' s u → SameConsole s.current u.current
same_console marks at' s u h = same_then marks s.current s.current u.current (record { out = refl; taken = refl; given = refl }) h.plain
