-- Messages that are served one after another.
use Rattle.std.proofs.Common.{◌≡◌, ◌∙◌, ℕ, List, [], ◌∷◌, ◌++◌, append_assoc, append-nil, inl, inr, refl, sym, ap, subst, Option, Some, None}
use Rattle.std.proofs.KnownBytes.{Consumes-nil, Consumes-trans}
use Rattle.std.specs.Io.KnownBytes.{Consumes}
use Rattle.json_messages.specs.Messages.{AreMessages, IsFront, front_of, header_from}
use Rattle.json_messages.specs.Sessions.{AreServed, BeginsTurn, IsCutShort, IsEndedBy, IsServedSoFar}
use Rattle.json_messages.specs.Taken.{IsOver, IsUntaken, IsUnwritten}
use Rattle.json_messages.specs.declared.fault.StreamFault.{StreamFault}
use Rattle.json_messages.specs.declared.fault.StreamFault.TheVariants as fault
use Rattle.json_messages.specs.declared.front.Front.TheVariants.{Open}
use Rattle.json_messages.proofs.Stays.{messages_kept, messages_more}

none_served : {S : Type 0} (Turn : List ℕ → S → S → Option ℕ → List ℕ → Type 0) (s : S)
    → AreServed Turn [] s s []
unfolding AreServed
none_served Turn s = (refl, refl)

served_more : {S : Type 0} (Turn : List ℕ → S → S → Option ℕ → List ℕ → Type 0)
    (bodies : List (List ℕ)) (body : List ℕ) (old between new : S) (first rest : List ℕ)
    → AreServed Turn bodies old between first → Turn body between new None rest
    → AreServed Turn (bodies ++ body ∷ []) old new (first ++ rest)
unfolding AreServed
served_more Turn [] body old between new first rest p q = (
  new,
  rest,
  [],
  subst (λ s. Turn body s new None rest) p.0 q,
  (refl, refl),
  ap (λ w. w ++ rest) p.1 ∙ sym (append-nil rest),
)
served_more Turn (b ∷ bodies) body old between new first rest p q = (
  p.0,
  p.1,
  p.2 ++ rest,
  p.3,
  served_more Turn bodies body p.0 between new p.2 rest p.4 q,
  ap (λ w. w ++ rest) p.5 ∙ append_assoc p.1 p.2 rest,
)

no_messages : AreMessages [] [] []
unfolding AreMessages
no_messages = refl

-- Nothing was read yet.
pub unserved : {S : Type 0} (Turn : List ℕ → S → S → Option ℕ → List ℕ → Type 0)
    (given : Option (List ℕ)) (s : S) → IsServedSoFar Turn given given [] s s []
unserved Turn given s = ([], Consumes-nil given, [], no_messages, none_served Turn s)

-- One message more is taken and served.
pub served_on : {S : Type 0} (Turn : List ℕ → S → S → Option ℕ → List ℕ → Type 0)
    (given left after : Option (List ℕ)) (held told body behind : List ℕ) (old between new : S)
    (first rest : List ℕ) → IsServedSoFar Turn given left held old between first
    → Consumes left after told → IsFront (held ++ told) body behind
    → Turn body between new None rest → IsServedSoFar Turn given after behind old new (first ++ rest)
served_on Turn given left after held told body behind old between new first rest p read front q = (
  p.0 ++ told,
  Consumes-trans given left after p.0 told p.1 read,
  p.2 ++ body ∷ [],
  messages_more p.0 told p.2 held body behind p.3 front,
  served_more Turn p.2 body old between new first rest p.4 q,
)

-- The next message ends the session.
pub served_last : {S : Type 0} (Turn : List ℕ → S → S → Option ℕ → List ℕ → Type 0)
    (given left after : Option (List ℕ)) (held told body behind : List ℕ) (old between new : S)
    (status : ℕ) (first rest : List ℕ) → IsServedSoFar Turn given left held old between first
    → Consumes left after told → IsFront (held ++ told) body behind
    → Turn body between new (Some status) rest
    → IsEndedBy Turn given after old status (first ++ rest)
served_last Turn given left after held told body behind old between new status first rest p read front q = (
  p.0 ++ told,
  Consumes-trans given left after p.0 told p.1 read,
  p.2,
  body,
  behind,
  messages_more p.0 told p.2 held body behind p.3 front,
  between,
  new,
  first,
  rest,
  p.4,
  q,
  refl,
)

-- Nothing is held, and nothing is read behind the last message.
pub served_whole : {S : Type 0} (Turn : List ℕ → S → S → Option ℕ → List ℕ → Type 0)
    (given left after : Option (List ℕ)) (held told : List ℕ) (old new : S) (written : List ℕ)
    → IsServedSoFar Turn given left held old new written → Consumes left after told
    → held ++ told ≡ [] → IsServedSoFar Turn given after [] old new written
served_whole Turn given left after held told old new written p read none = (
  p.0 ++ told,
  Consumes-trans given left after p.0 told p.1 read,
  p.2,
  subst (AreMessages (p.0 ++ told) p.2) none (messages_kept p.0 told p.2 held p.3),
  p.4,
)

-- ---- a session that a fault cuts short

-- No message is taken of what is held and what was read.
pub cut_between : {S : Type 0} (Turn : List ℕ → S → S → Option ℕ → List ℕ → Type 0)
    (given left after : Option (List ℕ)) (held told : List ℕ) (old between : S)
    (fault : StreamFault) (written : List ℕ) → IsServedSoFar Turn given left held old between written
    → Consumes left after told → IsUntaken (held ++ told) after fault
    → IsCutShort Turn given after old fault written
cut_between Turn given left after held told old between fault written p read why = (
  held ++ told,
  between,
  written,
  [],
  (
    p.0 ++ told,
    Consumes-trans given left after p.0 told p.1 read,
    p.2,
    messages_kept p.0 told p.2 held p.3,
    p.4,
  ),
  inl (why, refl),
  sym (append-nil written),
)

nothing_open : (bytes : List ℕ) → bytes ≡ [] → front_of bytes ≡ Open
unfolding header_from
nothing_open bytes e = rw e refl

-- The input has ended, and the session has not.
pub cut_over : {S : Type 0} (Turn : List ℕ → S → S → Option ℕ → List ℕ → Type 0)
    (given left after : Option (List ℕ)) (held told : List ℕ) (old between : S)
    (written : List ℕ) → IsServedSoFar Turn given left held old between written
    → Consumes left after told → IsOver (held ++ told) after
    → IsCutShort Turn given after old fault.Cut written
cut_over Turn given left after held told old between written p read over =
    cut_between Turn given left after held told old between fault.Cut written p read (nothing_open (held ++ told) over.0, over.1)

-- A message is taken, and is not answered to its end.
pub cut_within : {S : Type 0} (Turn : List ℕ → S → S → Option ℕ → List ℕ → Type 0)
    (given left after : Option (List ℕ)) (held told body behind : List ℕ) (old between : S)
    (fault : StreamFault) (first rest : List ℕ)
    → IsServedSoFar Turn given left held old between first
    → Consumes left after told → IsFront (held ++ told) body behind → IsUnwritten fault
    → BeginsTurn Turn body between rest → IsCutShort Turn given after old fault (first ++ rest)
cut_within Turn given left after held told body behind old between fault first rest p read front why begun = (
  held ++ told,
  between,
  first,
  rest,
  (
    p.0 ++ told,
    Consumes-trans given left after p.0 told p.1 read,
    p.2,
    messages_kept p.0 told p.2 held p.3,
    p.4,
  ),
  inr (body, behind, front, why, begun),
  refl,
)
