-- Events that are made for bytes one after another, and a text that is not assembled.
use Rattle.std.proofs.Common.{◌≡◌, ℕ, ◌+◌, ◌<◌, ◌≤◌, true, false, cond, List, [], ◌∷◌, ◌++◌, append-nil, length, drop, get_or, Option, None, Some, Result, Ok, Err, refl, sym, ap, ◌∙◌, arith}
use Rattle.std.proofs.lemmas.Result.{IfOk-weaker}
use Rattle.std.specs.Prelude.{⊤, is_none, is_ok, IsErr, OnOk}
use Rattle.std.proofs.lemmas.List.{at_drop_more, at_drop_all}
use Rattle.std.specs.declared.alloc.AllocError.{AllocError}
use Rattle.law_sources.specs.Judging.{on_line}
use Rattle.model.specs.Event.{event_of}
use Rattle.model.specs.State.{State}
use Rattle.model.specs.declared.event.Event.{Event}
use Rattle.model.specs.declared.event.Event.TheVariants.{Input, Patch}
use Rattle.model.specs.declared.event.EventFault.{EventFault}
use Rattle.model.specs.declared.source_fault.AsmFault.{AsmFault}
use Rattle.model.specs.declared.source_fault.AsmFaultKind.{AsmFaultKind}
use Rattle.mon_session.specs.Course.{Course, happened, if_accepted}
use Rattle.mon_session.specs.EventTexts.{event_text, if_rejected, rejected_text}
use Rattle.source_map.specs.Names.{Named}
use Rattle.mon_settings.specs.ByteLines.{all_happened, first_fault, if_assembled, if_fault, inputs, patches}
use Rattle.source_map.specs.Lines.{PlacesView}
use Rattle.mon_settings.specs.ChangeTexts.{events_text, if_assembled_text, not_assembled_text}

-- ---- one event more

pub made : (e : Event) (es : List Event) (c : Course) → is_ok (event_of c.0.current e) ≡ true
    → all_happened (e ∷ es) c ≡ all_happened es (happened e c)
unfolding all_happened
made e es c h = ap (λ b. cond b (all_happened es (happened e c)) c) h

same : (e : Event) (c : Course) (r : Result State EventFault) → is_ok r ≡ false
    → if_accepted e c r ≡ c
same e c (Ok state) h = cc
same e c (Err fault) h = refl

pub rejected : (e : Event) (es : List Event) (c : Course)
    → is_ok (event_of c.0.current e) ≡ false → all_happened (e ∷ es) c ≡ happened e c
unfolding all_happened
rejected e es c h = ap (λ b. cond b (all_happened es (happened e c)) c) h
    ∙ sym (same e c (event_of c.0.current e) h)

pub none_left : (c : Course) → all_happened [] c ≡ c
unfolding all_happened
none_left c = refl

-- ---- what is said of one event, and of the first that is rejected

pub no_fault : (e : Event) (es : List Event) (c : Course) → is_ok (event_of c.0.current e) ≡ true
    → first_fault (e ∷ es) c ≡ first_fault es (happened e c)
unfolding first_fault
no_fault e es c h = by (event_of c.0.current e) h
  where
    by : (r : Result State EventFault) → is_ok r ≡ true
        → if_fault (first_fault es (happened e c)) r ≡ first_fault es (happened e c)
    by (Ok state) h = refl
    by (Err fault) h = cc

-- the fault of an event
abbrev pub fault_of : Result State EventFault → Option EventFault
fault_of r = if_fault None r

a_fault : (e : Event) (es : List Event) (c : Course) → is_ok (event_of c.0.current e) ≡ false
    → first_fault (e ∷ es) c ≡ fault_of (event_of c.0.current e)
unfolding first_fault
a_fault e es c h = by (event_of c.0.current e) h
  where
    by : (r : Result State EventFault) → is_ok r ≡ false
        → if_fault (first_fault es (happened e c)) r ≡ fault_of r
    by (Ok state) h = cc
    by (Err fault) h = refl

pub none_done : (c : Course) → first_fault [] c ≡ None
unfolding first_fault
none_done c = refl

-- the first that is rejected, which is the next of those left
module _ (events : List Event) (first : Course) (e : Event) (es : List Event) (c : Course)
    (so_far : first_fault events first ≡ first_fault (e ∷ es) c)
    (fails : is_ok (event_of c.0.current e) ≡ false) where
  pub is_some_fault : false ≡ is_none (first_fault events first)
  is_some_fault = sym (ap is_none (so_far ∙ a_fault e es c fails) ∙ by (event_of c.0.current e) fails)
    where
      by : (r : Result State EventFault) → is_ok r ≡ false → is_none (fault_of r) ≡ false
      by (Ok state) h = cc
      by (Err fault) h = refl

  pub fault_said : (names others : List Named) (t0 t1 t2 : List ℕ) → others ≡ names → t1 ≡ t0
      → t2 ≡ t1 ++ event_text others e c [] → t2 ≡ t0 ++ events_text names [] (first_fault events first)
  unfolding events_text event_text
  fault_said names others t0 t1 t2 same before after =
      after ∙ (λ i. before i ++ if_rejected (same i) [] (event_of c.0.current e))
      ∙ ap (λ l. t0 ++ l) (by (event_of c.0.current e) fails
      ∙ ap (events_text names []) (sym (so_far ∙ a_fault e es c fails)))
    where
      by : (r : Result State EventFault) → is_ok r ≡ false
          → if_rejected names [] r ≡ events_text names [] (fault_of r)
      by (Ok state) h = cc
      by (Err fault) h = refl

-- none is rejected
module _ (events : List Event) (first c : Course)
    (so_far : first_fault events first ≡ first_fault [] c) where
  pub is_no_fault : true ≡ is_none (first_fault events first)
  is_no_fault = sym (ap is_none (so_far ∙ none_done c))

  pub nothing_said : (names : List Named) (t0 t1 : List ℕ) → t1 ≡ t0
      → t1 ≡ t0 ++ events_text names [] (first_fault events first)
  unfolding events_text
  nothing_said names t0 t1 before = before ∙ sym (append-nil t0)
      ∙ ap (λ f. t0 ++ events_text names [] f) (sym (so_far ∙ none_done c))

-- ---- words, by whether an event is accepted

pub accepted_said : (names : List Named) (e : Event) (c : Course) (said : List ℕ)
    → is_ok (event_of c.0.current e) ≡ true → event_text names e c said ≡ said
unfolding event_text
accepted_said names e c said h = by (event_of c.0.current e) h
  where
    by : (r : Result State EventFault) → is_ok r ≡ true → if_rejected names said r ≡ said
    by (Ok state) h = refl
    by (Err fault) h = cc

-- why an event is rejected
abbrev pub why_rejected : List Named → Event → Course → List ℕ
why_rejected names e c = if_rejected names [] (event_of c.0.current e)

pub rejected_said : (names : List Named) (e : Event) (c : Course) (said : List ℕ)
    → is_ok (event_of c.0.current e) ≡ false → event_text names e c said ≡ why_rejected names e c
unfolding event_text
rejected_said names e c said h = by (event_of c.0.current e) h
  where
    by : (r : Result State EventFault) → is_ok r ≡ false
        → if_rejected names said r ≡ if_rejected names [] r
    by (Ok state) h = cc
    by (Err fault) h = refl

-- all are accepted, or one is not
pub all_said : (names : List Named) (said : List ℕ) (f : Option EventFault) → is_none f ≡ true
    → events_text names said f ≡ said
unfolding events_text
all_said names said None h = refl
all_said names said (Some fault) h = cc

abbrev pub why_one : List Named → Option EventFault → List ℕ
why_one names None = []
why_one names (Some fault) = rejected_text names fault

pub one_said : (names : List Named) (said : List ℕ) (f : Option EventFault) → is_none f ≡ false
    → events_text names said f ≡ why_one names f
unfolding events_text
one_said names said None h = cc
one_said names said (Some fault) h = refl

pub ruleset said = (accepted_said, rejected_said, all_said, one_said)

-- ---- the events of the bytes from one on

pub patches-from : (a : ℕ) (bytes : List ℕ) (i : ℕ) → i < length bytes
    → patches (a + i) (drop i bytes)
    ≡ Patch (a + i) (get_or bytes i 0 ∷ 0 ∷ 0 ∷ []) 1 ∷ patches (a + (i + 1)) (drop (i + 1) bytes)
patches-from a bytes i within =
    let next : (a + i) + 1 ≡ a + (i + 1) = omega arith in
    at_drop_more (patches (a + i)) bytes i 0 within
    ∙ ap (λ n. Patch (a + i) (get_or bytes i 0 ∷ 0 ∷ 0 ∷ []) 1 ∷ patches n (drop (i + 1) bytes)) next

pub patches-end : (a : ℕ) (bytes : List ℕ) (i : ℕ) → length bytes ≤ i
    → patches (a + i) (drop i bytes) ≡ []
patches-end a bytes i all = at_drop_all (patches (a + i)) bytes i all

pub inputs-from : (bytes : List ℕ) (i : ℕ) → i < length bytes
    → inputs (drop i bytes) ≡ Input (get_or bytes i 0) ∷ inputs (drop (i + 1) bytes)
inputs-from bytes i within = at_drop_more inputs bytes i 0 within

pub inputs-end : (bytes : List ℕ) (i : ℕ) → length bytes ≤ i → inputs (drop i bytes) ≡ []
inputs-end bytes i all = at_drop_all inputs bytes i all

-- ---- a text that is not assembled

pub not_assembled : (a : ℕ) (c : Course) (r : Result (List ℕ) AsmFaultKind) (fault : AsmFault)
    → on_line 1 r ≡ Err fault → if_assembled a c r ≡ c
not_assembled a c (Ok bytes) fault h = cc
not_assembled a c (Err kind) fault h = refl

pub only_err : (P : Type 0) (r : Result ⊤ AllocError) → IsErr r → OnOk r P
only_err P (Ok done) h = cc
only_err P (Err fault) h = tt

pub if_ok : (P : Type 0) (r : Result ⊤ AllocError) → P → OnOk r P
if_ok P (Ok done) h = h
if_ok P (Err fault) h = tt

-- ---- what is said of a text that is not assembled

pub not_assembled_said : (places : PlacesView) (a : ℕ) (c : Course) (r : Result (List ℕ) AsmFaultKind)
    (fault : AsmFault) → on_line 1 r ≡ Err fault
    → if_assembled_text places a c r ≡ not_assembled_text fault.kind
not_assembled_said places a c (Ok bytes) fault h = cc
not_assembled_said places a c (Err kind) fault h = ap (λ e. not_assembled_text (kind_in e)) h
  where
    kind_in : Result (List ℕ) AsmFault → AsmFaultKind
    kind_in (Ok bytes) = kind
    kind_in (Err fault) = fault.kind

-- ---- words behind an event that is accepted, and behind events that all are

pub then_said : (r : Result ⊤ AllocError) (names : List Named) (e : Event) (c : Course)
    (t0 t1 t2 said also : List ℕ) → is_ok (event_of c.0.current e) ≡ true
    → t1 ≡ t0 ++ event_text names e c [] → also ≡ said → OnOk r (t2 ≡ t1 ++ also)
    → OnOk r (t2 ≡ t0 ++ event_text names e c said)
then_said r names e c t0 t1 t2 said also holds first same h =
    IfOk-weaker r (λ _. t2 ≡ t1 ++ also) (λ _. t2 ≡ t0 ++ event_text names e c said) (λ _ last.
    last ∙ (λ i. (first ∙ ap (λ l. t0 ++ l) (accepted_said names e c [] holds) ∙ append-nil t0) i ++ same i)
    ∙ ap (λ l. t0 ++ l) (sym (accepted_said names e c said holds))) h

pub then_all : (r : Result ⊤ AllocError) (names : List Named) (f : Option EventFault)
    (t0 t1 t2 said also : List ℕ) → is_none f ≡ true
    → t1 ≡ t0 ++ events_text names [] f → also ≡ said → OnOk r (t2 ≡ t1 ++ also)
    → OnOk r (t2 ≡ t0 ++ events_text names said f)
then_all r names f t0 t1 t2 said also holds first same h =
    IfOk-weaker r (λ _. t2 ≡ t1 ++ also) (λ _. t2 ≡ t0 ++ events_text names said f) (λ _ last.
    last ∙ (λ i. (first ∙ ap (λ l. t0 ++ l) (all_said names [] f holds) ∙ append-nil t0) i ++ same i)
    ∙ ap (λ l. t0 ++ l) (sym (all_said names said f holds))) h
