-- A reply that was written, or was not, in the engine's words.
use Rattle.std.proofs.Common.{◌≡◌, ◌≢◌, ℕ, ◌+◌, ◌≤◌, Bool, true, cond, codes, false, List, Option, Result, Ok, Err, MatchResult, IfOk, IfErr, subst, sym, refl, length, take}
use Rattle.std.proofs.lemmas.List.{take_all}
use Rattle.std.specs.Prelude.{nat_lt}
use Rattle.model.specs.State.{console_size}
use Rattle.model.specs.Session.{Session}
use Rattle.model.specs.Writers.{Writes}
use Rattle.model.specs.Transcript.{Answer, after_input, answer, answer_to, fault_line, input_answer}
use Rattle.model.specs.declared.command.Command.{Command}
use Rattle.model.specs.declared.command.Command.TheVariants.{Input}
use Rattle.model.specs.declared.event.EventFault.TheVariants.{InputFull}
use Rattle.replies.specs.declared.fault.ReplyFault.{ReplyFault}
use Rattle.replies.specs.declared.fault.ReplyFault.TheVariants as reply_fault
use Rattle.engine.specs.declared.fault.EngineFault.{EngineFault}
use Rattle.engine.specs.Outcome.{EndsReply}
use Rattle.engine.specs.Refusals.{of_reply}

abbrev Told : Type 0
Told = Result (Unit {0}) ReplyFault

abbrev Says : Told → Result Bool EngineFault → Type 0
Says r q = MatchResult r (λ _. q ≡ Ok false) (λ e. q ≡ Err (of_reply e))

pub said_writes : (a b : Option (List ℕ)) (text : List ℕ) (r : Told) (q : Result Bool EngineFault) → Says r q → Writes a b text r → Writes a b text q
said_writes a b text (Ok x) q h w = subst (Writes a b text) (sym h) w
said_writes a b text (Err e) q h w = subst (Writes a b text) (sym h) w

ends : (e : ReplyFault) → EndsReply (of_reply e)
ends reply_fault.Write = tt
ends reply_fault.OutOfMemory = tt

pub said_ends : (r : Told) (q : Result Bool EngineFault) → Says r q → IfErr q EndsReply
said_ends (Ok x) q h = subst (λ p. IfErr p EndsReply) (sym h) tt
said_ends (Err e) q h = subst (λ p. IfErr p EndsReply) (sym h) (ends e)

pub said_after : (P : Type 0) (r : Told) (q : Result Bool EngineFault) → Says r q → P → IfOk q (λ quit. (quit ≡ false) × P)
said_after P (Ok x) q h p = subst (λ t. IfOk t (λ quit. (quit ≡ false) × P)) (sym h) (refl, p)
said_after P (Err e) q h p = subst (λ t. IfOk t (λ quit. (quit ≡ false) × P)) (sym h) tt

pub said_unless : (P : Type 0) (r : Told) (q : Result Bool EngineFault) → Says r q → (r ≢ Err reply_fault.OutOfMemory → P) → IfOk q (λ quit. (quit ≡ false) × P)
said_unless P (Ok x) q h p = subst (λ t. IfOk t (λ quit. (quit ≡ false) × P)) (sym h) (refl, p (λ e. cc))
said_unless P (Err e) q h p = subst (λ t. IfOk t (λ quit. (quit ≡ false) × P)) (sym h) tt

-- ---- input

either_goes_on : (b : Bool) (x y : Answer) → x.quit ≡ false → y.quit ≡ false → (cond b x y).quit ≡ false
either_goes_on true x y h k = h
either_goes_on false x y h k = k

input_goes_on : (s : Session) (bytes : List ℕ) → (input_answer s bytes).quit ≡ false
unfolding input_answer
input_goes_on s bytes = either_goes_on (nat_lt console_size (length s.current.bus.given + length bytes)) (answer (fault_line InputFull) s)
    (answer (codes "OK\n") (after_input s bytes)) refl refl

pub said_input : (s n : Session) (command : Command) (bytes first : List ℕ) (count : ℕ) (r : Told) (q : Result Bool EngineFault)
    → command ≡ Input bytes count → first ≡ take count bytes → Says r q
    → n ≡ (input_answer s first).session → IfOk q (λ quit. (quit ≡ (answer_to command s).quit) × (n ≡ (answer_to command s).session))
unfolding answer_to
said_input s n command bytes first count r q is e h after =
    subst (λ (c : Command). IfOk q (λ quit. (quit ≡ (answer_to c s).quit) × (n ≡ (answer_to c s).session))) (sym is)
    (subst (λ (l : List ℕ). IfOk q (λ quit. (quit ≡ (input_answer s l).quit) × (n ≡ (input_answer s l).session))) e
    (subst (λ (b : Bool). IfOk q (λ quit. (quit ≡ b) × (n ≡ (input_answer s first).session))) (sym (input_goes_on s first))
    (said_after (n ≡ (input_answer s first).session) r q h after)))

pub first_all : (bytes : List ℕ) (count : ℕ) → length bytes ≤ count → bytes ≡ take count bytes
first_all bytes count h = sym (take_all count bytes h)
