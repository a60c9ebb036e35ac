-- A history after an event, without its oldest part, with a checkpoint more, and gone back.
use Rattle.std.proofs.Common.{◌≡◌, ℕ, ◌+◌, ◌-◌, ◌*◌, ◌<◌, ◌≤◌, zero, suc, min, List, [], ◌∷◌, ◌++◌, length, take, drop, Some, refl, sym, ap, ◌∙◌, subst, arith}
use Rattle.std.proofs.lemmas.List.{take_all, length-take-le}
use Rattle.model.specs.State.{State}
use Rattle.model.specs.Session.{keep_last}
use Rattle.model.specs.declared.event.Event.{Event}
use Rattle.model.specs.Checkpoint.{Checkpoint, checkpoint_of, state_at}
use Rattle.circular_buffer.specs.Buffer.{last_item}
use Rattle.circular_buffer.proofs.Places.{slice_get-some}
use Rattle.debugger.specs.Replay.{state_after, before_each, Grows, Follows, AllFollow, LeadsBack, AllLeadBack, base_of, IsHistory, held_states}
use Rattle.debugger.proofs.Replays.{length-keep_last, state_after-append, state_after-split, next-accepted, AllFollow-append, AllFollow-take, AllFollow-drop, before_each-append, before_each-drop, length-before_each, kept-event, kept-drop, kept-back}
use Rattle.debugger.proofs.Checkpoints.{leads-here, leads-later, marks-later, marks-more, marks-push, marks-take, marks-back, mark_at}

-- ---- an event more

same_base : (p : ℕ) (kept : List Checkpoint) (base : State) (es : List Event) (s t : State) → 0 < length kept → base ≡ base_of kept s → Grows s t
    → AllLeadBack p kept base es s → base_of kept t ≡ base
same_base p [] base es s t some is grows marks = absurd (omega arith)
same_base p (c ∷ cs) base es s t some is grows marks = (leads-later c s t base marks.0 grows).back

pub record AfterEvent (p : ℕ) (kept : List Checkpoint) (es : List Event) (e : Event) (s t : State) : Type 0 where
  pub history : IsHistory p kept (es ++ e ∷ []) t
  pub states : (held size : ℕ) → held ≤ size → held ≤ length es
      → held_states (min (held + 1) size) kept (es ++ e ∷ []) t ≡ keep_last size (held_states held kept es s ++ s ∷ [])

pub after_event : (p : ℕ) (kept : List Checkpoint) (es : List Event) (e : Event) (s t : State) → 0 < length kept → p * length kept ≤ length es + p
    → IsHistory p kept es s → Follows s e t → AfterEvent p kept es e s t
after_event p kept es e s t some room h follows =
    let base = base_of kept s in
    let same : base_of kept t ≡ base = same_base p kept base es s t some refl follows.grows h.marks in
    let last : Follows (state_after base es) e t = subst (λ (x : State). Follows x e t) (sym h.whole) follows in
    let reached : state_after base (es ++ e ∷ []) ≡ t = state_after-append base es (e ∷ []) ∙ next-accepted (state_after base es) t e last.accepted in
    record {
      history = record {
        follow = subst (λ (x : State). AllFollow x (es ++ e ∷ [])) (sym same) (AllFollow-append base es e t h.follow last);
        whole = ap (λ (x : State). state_after x (es ++ e ∷ [])) same ∙ reached;
        marks = subst (λ (x : State). AllLeadBack p kept x (es ++ e ∷ []) t) (sym same)
            (marks-more p kept base es e t room (marks-later p kept base es s t follows.grows h.marks));
      };
      states = λ held size within few.
          ap (λ (x : State). keep_last (min (held + 1) size) (before_each x (es ++ e ∷ []))) same
          ∙ ap (keep_last (min (held + 1) size)) (before_each-append base es e ∙ ap (λ (x : State). before_each base es ++ x ∷ []) h.whole)
          ∙ kept-event held size (before_each base es) s within (let n = length-before_each base es in omega arith);
    }

-- ---- the oldest part let go

later_base : (p : ℕ) (kept : List Checkpoint) (es : List Event) (now : State) → 0 < length kept → (length kept ≡ 1 → length es ≤ p)
    → IsHistory p kept es now → base_of (drop 1 kept) now ≡ state_after (base_of kept now) (take p es)
later_base p [] es now some lone h = absurd (omega arith)
later_base p (c ∷ []) es now some lone h = sym (ap (state_after (state_at c now)) (take_all p es (lone refl)) ∙ h.whole)
later_base p (c ∷ d ∷ cs) es now some lone h = h.marks.1.0.back

rest_marks : (p : ℕ) (kept : List Checkpoint) (base : State) (es : List Event) (now : State) → AllLeadBack p kept base es now
    → AllLeadBack p (drop 1 kept) (state_after base (take p es)) (drop p es) now
rest_marks p [] base es now h = tt
rest_marks p (c ∷ cs) base es now h = h.1

pub record WithoutPart (p : ℕ) (kept : List Checkpoint) (es : List Event) (now : State) : Type 0 where
  pub history : IsHistory p (drop 1 kept) (drop p es) now
  pub states : (held : ℕ) → held + p ≤ length es → held_states held (drop 1 kept) (drop p es) now ≡ held_states held kept es now

pub without_part : (p : ℕ) (kept : List Checkpoint) (es : List Event) (now : State) → 0 < length kept → (length kept ≡ 1 → length es ≤ p)
    → IsHistory p kept es now → WithoutPart p kept es now
without_part p kept es now some lone h =
    let base = base_of kept now in
    let same : base_of (drop 1 kept) now ≡ state_after base (take p es) = later_base p kept es now some lone h in
    record {
      history = record {
        follow = subst (λ (x : State). AllFollow x (drop p es)) (sym same) (AllFollow-drop p base es h.follow);
        whole = ap (λ (x : State). state_after x (drop p es)) same ∙ state_after-split p base es ∙ h.whole;
        marks = subst (λ (x : State). AllLeadBack p (drop 1 kept) x (drop p es) now) (sym same) (rest_marks p kept base es now h.marks);
      };
      states = λ held few.
          let n = length-before_each base es in
          ap (λ (x : State). keep_last held (before_each x (drop p es))) same ∙ ap (keep_last held) (before_each-drop p base es (omega arith))
          ∙ kept-drop held p (before_each base es) (omega arith);
    }

-- ---- a checkpoint more

more_base : (kept : List Checkpoint) (c : Checkpoint) (now : State) → state_at c now ≡ now → base_of (kept ++ c ∷ []) now ≡ base_of kept now
more_base [] c now h = h
more_base (d ∷ kept) c now h = refl

pub record WithMark (p : ℕ) (kept : List Checkpoint) (c : Checkpoint) (es : List Event) (now : State) : Type 0 where
  pub history : IsHistory p (kept ++ c ∷ []) es now
  pub states : (held : ℕ) → held_states held (kept ++ c ∷ []) es now ≡ held_states held kept es now

pub with_mark : (p : ℕ) (kept : List Checkpoint) (c : Checkpoint) (es : List Event) (now : State) → p * length kept ≡ length es → LeadsBack c now now
    → IsHistory p kept es now → WithMark p kept c es now
with_mark p kept c es now room leads h =
    let base = base_of kept now in
    let same : base_of (kept ++ c ∷ []) now ≡ base = more_base kept c now leads.back in
    record {
      history = record {
        follow = subst (λ (x : State). AllFollow x es) (sym same) h.follow;
        whole = ap (λ (x : State). state_after x es) same ∙ h.whole;
        marks = subst (λ (x : State). AllLeadBack p (kept ++ c ∷ []) x es now) (sym same)
            (marks-push p kept base es c now room (subst (LeadsBack c now) (sym h.whole) leads) h.marks);
      };
      states = λ held. ap (λ (x : State). keep_last held (before_each x es)) same;
    }

-- ---- going back

pub record GoneBack (p n m : ℕ) (kept : List Checkpoint) (es : List Event) (now : State) : Type 0 where
  pub history : IsHistory p (take m kept) (take n es) (state_after (base_of kept now) (take n es))
  pub states : (held k : ℕ) → held ≤ length es → k ≤ held → n ≡ length es - k
      → held_states (held - k) (take m kept) (take n es) (state_after (base_of kept now) (take n es)) ++ state_after (base_of kept now) (take n es) ∷ []
      ≡ take (held - k + 1) (held_states held kept es now ++ now ∷ [])

back_base : (p m : ℕ) (kept : List Checkpoint) (base : State) (es : List Event) (t : State) → 0 < m → 0 < length kept
    → AllLeadBack p (take m kept) base es t → base_of (take m kept) t ≡ base
back_base zero m kept base es t few some marks = by m kept few some marks
  where
    by : (m : ℕ) (kept : List Checkpoint) → 0 < m → 0 < length kept → AllLeadBack zero (take m kept) base es t → base_of (take m kept) t ≡ base
    by zero kept few some marks = absurd (omega arith)
    by (suc m) [] few some marks = absurd (omega arith)
    by (suc m) (c ∷ cs) few some marks = marks.0.back
back_base (suc p) zero kept base es t few some marks = absurd (omega arith)
back_base (suc p) (suc m) [] base es t few some marks = absurd (omega arith)
back_base (suc p) (suc m) (c ∷ cs) base es t few some marks = marks.0.back

pub gone_back : (p n m : ℕ) (kept : List Checkpoint) (es : List Event) (now : State) → 0 < m → 0 < length kept → p * length (take m kept) ≤ n + p
    → n ≤ length es → IsHistory p kept es now → GoneBack p n m kept es now
gone_back p n m kept es now few some room within h =
    let base = base_of kept now in
    let t = state_after base (take n es) in
    let marks : AllLeadBack p (take m kept) base (take n es) t =
    marks-back p n (take m kept) base es now t room within h.follow h.whole refl (marks-take m p kept base es now h.marks) in
    let same : base_of (take m kept) t ≡ base = back_base p m kept base (take n es) t few some marks in
    record {
      history = record {
        follow = subst (λ (x : State). AllFollow x (take n es)) (sym same) (AllFollow-take n base es h.follow);
        whole = ap (λ (x : State). state_after x (take n es)) same;
        marks = subst (λ (x : State). AllLeadBack p (take m kept) x (take n es) t) (sym same) marks;
      };
      states = λ held k a b e.
          ap (λ (x : State). keep_last (held - k) (before_each x (take n es)) ++ t ∷ []) same ∙ kept-back held k n base es a b e
          ∙ ap (λ (x : State). take (held - k + 1) (keep_last held (before_each base es) ++ x ∷ [])) h.whole;
    }

-- ---- the last checkpoint

pub last_mark : (p : ℕ) (kept : List Checkpoint) (es : List Event) (now : State) (c : Checkpoint) → last_item kept ≡ Some c → IsHistory p kept es now
    → LeadsBack c now (state_after (base_of kept now) (take (p * (length kept - 1)) es))
last_mark p kept es now c h history = mark_at (length kept - 1) p kept (base_of kept now) es now c h history.marks

-- the last of the first m checkpoints
pub kept_leads : (p m : ℕ) (kept : List Checkpoint) (es : List Event) (now : State) (c : Checkpoint) → last_item (take m kept) ≡ Some c
    → m ≤ length kept → IsHistory p kept es now
    → LeadsBack c now (state_after (base_of kept now) (take (p * (m - 1)) es))
kept_leads p m kept es now c h within history =
    let n : length (take m kept) ≡ m = length-take-le m kept within in
    subst (λ k. LeadsBack c now (state_after (base_of kept now) (take (p * (k - 1)) es))) n
    (mark_at (length (take m kept) - 1) p (take m kept) (base_of kept now) es now c h (marks-take m p kept (base_of kept now) es now history.marks))

-- the last checkpoint put back, and the events from there on replayed
pub returned_there : (p m k n : ℕ) (kept : List Checkpoint) (es : List Event) (now mid end : State) → 0 < m → m ≤ length kept → k ≡ p * (m - 1)
    → IsHistory p kept es now
    → ((c : Checkpoint) → last_item (take m kept) ≡ Some c → mid ≡ state_at c now)
    → ((base : State) → AllFollow base es → mid ≡ state_after base (take k es) → end ≡ state_after base (take n es))
    → end ≡ state_after (base_of kept now) (take n es)
returned_there p m k n kept es now mid end some within place h at on =
    let long : length (take m kept) ≡ m = length-take-le m kept within in
    let first = slice_get-some (take m kept) (length (take m kept) - 1) (omega arith) in
    let leads = kept_leads p m kept es now first.0 first.1 within h in
    on (base_of kept now) h.follow (at first.0 first.1 ∙ leads.back ∙ ap (λ x. state_after (base_of kept now) (take x es)) (sym place))

-- the same lists and state under other names
pub renamed : (p : ℕ) (kept kept' : List Checkpoint) (es es' : List Event) (t t' : State) → kept' ≡ kept → es' ≡ es → t' ≡ t → IsHistory p kept es t
    → IsHistory p kept' es' t'
renamed p kept kept' es es' t t' a b c h =
    subst (λ x. IsHistory p x es' t') (sym a) (subst (λ x. IsHistory p kept x t') (sym b) (subst (IsHistory p kept es) (sym c) h))

pub length-held_states : (held : ℕ) (kept : List Checkpoint) (es : List Event) (now : State) → held ≤ length es → length (held_states held kept es now) ≡ held
length-held_states held kept es now few =
    let n = length-before_each (base_of kept now) es in
    length-keep_last held (before_each (base_of kept now) es) ∙ omega arith

-- the history of a state to which nothing has happened
pub begun : (p : ℕ) (now : State) → IsHistory p (checkpoint_of now ∷ []) [] now
begun p now =
    let leads = leads-here now in
    record { follow = tt; whole = leads.back; marks = (subst (LeadsBack (checkpoint_of now) now) (sym leads.back) leads, tt) }
