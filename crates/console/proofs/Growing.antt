-- What a run puts out begins with what was put out before.
use Rattle.std.proofs.Common.{◌≡◌, ◌∙◌, ℕ, zero, suc, ◌-◌, ◌<◌, Bool, true, false, cond, List, [], ◌∷◌, ◌++◌, length, Option, Some, None, Result, Ok, Err, refl, sym, ap, arith, append-nil, append_assoc, inl, inr, subst}
use Rattle.std.specs.Prelude.{nat_le}
use Rattle.model.specs.Event.{event_of, input_of}
use Rattle.model.specs.Session.{Session}
use Rattle.model.specs.State.{State, console_size}
use Rattle.model.specs.Step.{step}
use Rattle.model.specs.Transcript.{after_event, after_input}
use Rattle.model.specs.declared.event.Event.TheVariants as event
use Rattle.model.specs.declared.event.EventFault.{EventFault}
use Rattle.model.specs.declared.event.EventFault.TheVariants.{InputFull}
use Rattle.console.specs.Playing.{Outcome, Play, Turn, after_turn, asks, came, ending_here, is_at, later, line_for, played, stepped, turn_of, turn_with, unless_ended, with_line}
use Rattle.console.specs.Turns.{CutTurn, play_at}
use Rattle.console.specs.Written.{BrokeOff, CutRun}
use Rattle.console.specs.declared.ending.Ending.{Ending}
use Rattle.console.specs.declared.ending.Ending.TheVariants.{Until}
use Rattle.console.proofs.Steps.{step_grows}
use Rattle.console.proofs.Turning.{played_turn}

-- a text that begins so
abbrev pub Begins : List ℕ → List ℕ → Type 0
Begins front whole = (more : List ℕ) × (whole ≡ front ++ more)

pub begins_itself : (xs : List ℕ) → Begins xs xs
begins_itself xs = ([], sym (append-nil xs))

pub begins_on : (xs ys zs : List ℕ) → Begins xs ys → Begins ys zs → Begins xs zs
begins_on xs ys zs p q = (p.0 ++ q.0, q.1 ∙ ap (λ l. l ++ q.0) p.1 ∙ append_assoc xs p.0 q.0)

abbrev pub out_of : Play → List ℕ
out_of p = p.session.current.bus.out

-- ---- input

byte_by : (s : Session) (byte : ℕ) (full : Bool)
    → (after_event s (cond full (Err InputFull) (Ok (record s.current
    { bus = record s.current.bus { given = s.current.bus.given ++ byte ∷ [] } })))).current.bus.out ≡ s.current.bus.out
byte_by s byte true = refl
byte_by s byte false = refl

byte_kept : (s : Session) (byte : ℕ) → (after_event s (event_of s.current (event.Input byte))).current.bus.out ≡ s.current.bus.out
unfolding event_of input_of
byte_kept s byte = byte_by s byte (nat_le console_size (length s.current.bus.given))

pub input_kept : (s : Session) (bytes : List ℕ) → (after_input s bytes).current.bus.out ≡ s.current.bus.out
unfolding after_input
input_kept s [] = refl
input_kept s (byte ∷ bytes) = input_kept (after_event s (event_of s.current (event.Input byte))) bytes ∙ byte_kept s byte

-- ---- a turn

stepped_grows : (p : Play) (asked some : Bool) (r : Result State EventFault) → step p.session.current ≡ r
    → Begins (out_of p) (out_of (stepped p asked some r).play)
stepped_grows p asked some (Ok after) e = step_grows p.session.current after e
stepped_grows p asked some (Err fault) e = begins_itself (out_of p)

unless_grows : (why : Option Ending) (p : Play) (turn : Turn) → Begins (out_of p) (out_of turn.play) → Begins (out_of p) (out_of (unless_ended why p turn).play)
unless_grows (Some why) p turn grows = begins_itself (out_of p)
unless_grows None p turn grows = grows

pub turn_grows : (p : Play) → Begins (out_of p) (out_of (turn_of p).play)
unfolding turn_of
turn_grows p =
    let asked = asks p.memo p.session.current in
    let line = line_for p.memo p.session.current p.input in
    let q = with_line line p in
    subst (λ out. Begins out (out_of (turn_with asked line p).play)) (input_kept p.session line)
    (unless_grows (ending_here p.memo p.written asked (came line) q.session.current) q (stepped q asked (came line) (step q.session.current))
    (stepped_grows q asked (came line) (step q.session.current) refl))

-- ---- a run

at_grows : (b : Bool) (q : Play) (before : List ℕ) (o : Outcome) → Begins before (out_of q) → Begins (out_of q) (out_of o.play)
    → Begins before (out_of (cond b (record { steps = 1; ending = Until; play = q }) (later 1 o)).play)
at_grows true q before o first second = first
at_grows false q before o first second = begins_on before (out_of q) (out_of o.play) first second

after_grows : (until : Option ℕ) (ending : Option Ending) (q : Play) (before : List ℕ) (rest : Play → Outcome) → Begins before (out_of q)
    → ((p : Play) → Begins (out_of p) (out_of (rest p).play))
    → Begins before (out_of (after_turn until (record { ending = ending; play = q }) rest).play)
after_grows until (Some why) q before rest first second = first
after_grows until None q before rest first second = at_grows (is_at until q.session.current) q before (rest q) first (second q)

pub played_grows : (until : Option ℕ) (n : ℕ) (p : Play) → Begins (out_of p) (out_of (played until n p).play)
unfolding played
played_grows until zero p = begins_itself (out_of p)
played_grows until (suc n) p = after_grows until (turn_of p).ending (turn_of p).play (out_of p) (λ q. played until n q) (turn_grows p) (played_grows until n)

-- ---- a run that was cut short

cut_turn_grows : (until : Option ℕ) (n m : ℕ) (p : Play) (told rest : List ℕ) (now : Session) → n ≡ suc m → CutTurn p told rest now
    → Begins now.current.bus.out (out_of (played until n p).play)
cut_turn_grows until n m p told rest now more cut = elim cut [
  | inl same ↦ subst (λ out. Begins out (out_of (played until n p).play))
      (sym (ap (λ (s : Session). s.current.bus.out) same ∙ input_kept p.session told)) (played_grows until n p)
  | inr made ↦ subst (λ (o : Outcome). Begins now.current.bus.out (out_of o.play))
      (sym (played_turn until n m p more ∙ ap (λ turn. after_turn until turn (λ q. played until m q)) made.1))
      (after_grows until None (play_at now made.0 rest) now.current.bus.out (λ q. played until m q) (begins_itself now.current.bus.out) (played_grows until m))
]

pub cut_grows : (until : Option ℕ) (limit : ℕ) (first : Play) (now : Session) (rest : List ℕ) → CutRun until limit first now rest
    → Begins now.current.bus.out (out_of (played until limit first).play)
cut_grows until limit first now rest cut =
    let within : cut.steps < limit = cut.within in
    let more : limit - cut.steps ≡ suc (limit - cut.steps - 1) = omega arith in
    subst (λ (o : Outcome). Begins now.current.bus.out (out_of o.play)) (sym cut.made)
    (cut_turn_grows until (limit - cut.steps) (limit - cut.steps - 1) cut.before cut.told rest now more cut.turn)

pub broke_grows : (until : Option ℕ) (limit : ℕ) (first : Play) (now : Session) (rest : List ℕ) → BrokeOff until limit first now rest
    → Begins now.current.bus.out (out_of (played until limit first).play)
broke_grows until limit first now rest broke = elim broke [
  | inl cut ↦ cut_grows until limit first now rest cut
  | inr came ↦ ([], sym (ap (λ (s : Session). s.current.bus.out) came.session) ∙ sym (append-nil now.current.bus.out))
]
