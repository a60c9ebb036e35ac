-- A session that goes back over all its events, and makes them again.
use Rattle.std.proofs.Common.{◌≡◌, ◌∙◌, ℕ, ◌+◌, ◌-◌, ◌≤◌, List, [], ◌∷◌, ◌++◌, length, length-append, take, get_or, Result, Ok, Err, Option, Some, refl, sym, ap, subst, arith}
use Rattle.std.specs.Prelude.{⊤, IfErr, OnOk, slice_get}
use Rattle.model.specs.Transcript.{after_event}
use Rattle.law_sessions.proofs.Backs.{back_of-held, length-keep_last}
use Rattle.model.specs.Back.{back_of, states, without_last}
use Rattle.model.specs.Event.{event_of}
use Rattle.model.specs.Session.{Session}
use Rattle.model.specs.State.{State}
use Rattle.model.specs.declared.event.Event.{Event}
use Rattle.model.specs.declared.event.EventFault.{EventFault}
use Rattle.model.specs.declared.session_fault.SessionFault.{SessionFault}
use Rattle.mon_files.specs.Held.{oldest}
use Rattle.mon_runs.specs.Recall.{if_made, made_again}
use Rattle.mon_session.specs.Course.{Course}
use Rattle.mon_session.specs.Events.{Kept, with_redone, with_undone}
use Rattle.mon_steps.specs.BackLines.{if_held, if_next, remade_one, undone}
use Rattle.page_data.specs.Changes.{Tells}
use Rattle.page_data.specs.Events.{HoldsSession, led_by}
use Rattle.page_data.specs.Start.{start_at, start_bytes}
use Rattle.page_data.proofs.Telling.{told_none}

-- ---- back

pub gone : (k : ℕ) (r : Result ⊤ SessionFault) (s t : Session) → k ≤ length s.earlier → OnOk r (back_of k s ≡ Ok t)
    → IfErr r (λ f. (back_of k s ≡ Err f) × (t ≡ s)) → t ≡ without_last k s
gone k (Ok done) s t held ok err = let same : Ok t ≡ Ok (without_last k s) = sym ok ∙ back_of-held k s held in cc
gone k (Err fault) s t held ok err = let same : Err fault ≡ Ok (without_last k s) = sym err.0 ∙ back_of-held k s held in cc

-- over all events that are held
module _ (held : ℕ) (s t : Session) (all : held ≡ length s.earlier) (back : t ≡ without_last held s) where
  left : length s.earlier - held ≡ 0
  left = omega (arith, all)

  pub gone_course : (kept new : Kept) → new ≡ with_undone held kept → (t, new) ≡ undone held (s, kept)
  gone_course kept new is = (λ i. (back i, is i)) ∙ sym (ap (if_held held (s, kept)) (back_of-held held s (omega (arith, all))))

  pub gone_oldest : t.current ≡ oldest s
  unfolding without_last
  gone_oldest = ap (λ (x : Session). x.current) back ∙ ap (λ n. get_or (states s) n s.current) left

  gone_none : t.earlier ≡ []
  unfolding without_last
  gone_none = ap (λ (x : Session). x.earlier) back ∙ ap (λ n. take n s.earlier) left

  pub gone_history : t.history ≡ s.history
  unfolding without_last
  gone_history = ap (λ (x : Session). x.history) back

  pub gone_length : length t.earlier ≡ 0
  gone_length = ap length gone_none

-- ---- and again

again_by : (s : Session) (r : Result State EventFault) → (if_made s r (λ t. made_again [] t)).1 ≡ after_event s r
unfolding made_again
again_by s (Ok state) = refl
again_by s (Err fault) = refl

led_again : (e : Event) (s : Session) → (made_again (e ∷ []) s).1 ≡ led_by e s
unfolding made_again
led_again e s = again_by s (event_of s.current e)

pub one_again : (course : Course) (e : Event) (next : Option Event) (t : Session) (kept : Kept) → next ≡ slice_get course.1.undone 0 → next ≡ Some e
    → t ≡ led_by e course.0 → kept ≡ with_redone course.1 → (t, kept) ≡ remade_one course
one_again course e next t kept is some led then =
    (λ i. ((led ∙ sym (led_again e course.0)) i, then i)) ∙ ap (λ (n : Option Event). (if_next course n, with_redone course.1)) (sym some ∙ is)

longer_by : (s : Session) (r : Result State EventFault) → length (after_event s r).earlier ≤ length s.earlier + 1
longer_by s (Ok state) = omega (arith, length-keep_last s.history (s.earlier ++ s.current ∷ []), length-append s.earlier (s.current ∷ []))
longer_by s (Err fault) = omega arith

pub one_longer : (e : Event) (s t : Session) → t ≡ led_by e s → length t.earlier ≤ length s.earlier + 1
one_longer e s t led = subst (λ (x : Session). length x.earlier ≤ length s.earlier + 1) (sym led) (longer_by s (event_of s.current e))

same_by : (s : Session) (r : Result State EventFault) → (after_event s r).history ≡ s.history
same_by s (Ok state) = refl
same_by s (Err fault) = refl

pub same_room : (e : Event) (s t : Session) → t ≡ led_by e s → t.history ≡ s.history
same_room e s t led = ap (λ (x : Session). x.history) led ∙ same_by s (event_of s.current e)

no_states : (xs : List State) → length xs ≡ 0 → xs ≡ []
no_states [] h = refl
no_states (x ∷ xs) h = absurd (omega (arith, h))

-- no record tells of a state that holds none before it
pub none_told : (start : State) (s : Session) (records : List ℕ) → records ≡ [] → length s.earlier ≡ 0 → start ≡ s.current
    → Tells start records s.earlier s.current
none_told start s records none held at =
    subst (λ (x : State). Tells start records s.earlier x) at
    (subst (λ (l : List State). Tells start records l start) (sym (no_states s.earlier held))
    (subst (λ (l : List ℕ). Tells start l [] start) (sym none) (told_none start)))

-- a state, and records that tell of all that a session holds
pub holds : (start : State) (s : Session) (first records bytes : List ℕ) → first ≡ start_bytes start → bytes ≡ first ++ records
    → ((rest : List ℕ) → start_at start.bus.map (start_bytes start ++ rest) ≡ (start, rest)) → Tells start records s.earlier s.current
    → HoldsSession start bytes s
holds start s first records bytes begins all read told =
    let whole : bytes ≡ start_bytes start ++ records = all ∙ ap (λ l. l ++ records) begins in
    record {
      records = records;
      whole = whole;
      read = ap (start_at start.bus.map) whole ∙ read records;
      told = told;
    }
