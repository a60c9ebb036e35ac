-- Messages that are served one after another. `Turn` says what is done with one: its body, the
-- state before and after, the exit status if it asks for the end, and what is written.
-- Source: Debug Adapter Protocol, "Base protocol"; Language Server Protocol 3.17, "Base Protocol";
-- mos65.
use Rattle.std.specs.Prelude.{ℕ, ◌≡◌, ◌⊎◌, List, [], ◌∷◌, ◌++◌, Option, Some, None}
use Rattle.std.specs.Io.KnownBytes.{Consumes}
use Rattle.json_messages.specs.Messages.{AreMessages, IsFront}
use Rattle.json_messages.specs.Taken.{IsUntaken, IsUnwritten}
use Rattle.json_messages.specs.declared.fault.StreamFault.{StreamFault}

-- Bodies are served in their order, and none asks for the end. What is written of a body stands
-- before what is written of the next.
unfoldable pub AreServed : {S : Type 0} → (List ℕ → S → S → Option ℕ → List ℕ → Type 0)
    → List (List ℕ) → S → S → List ℕ → Type 0
AreServed {S} Turn [] old new written = (new ≡ old) × (written ≡ [])
AreServed {S} Turn (body ∷ bodies) old new written = (between : S) × (first : List ℕ)
    × (rest : List ℕ) × Turn body old between None first × AreServed Turn bodies between new rest
    × (written ≡ first ++ rest)

-- Of what was read, all messages were served, and none asked for the end. `held` was read behind
-- them.
abbrev pub IsServedSoFar : {S : Type 0} → (List ℕ → S → S → Option ℕ → List ℕ → Type 0)
    → Option (List ℕ) → Option (List ℕ) → List ℕ → S → S → List ℕ → Type 0
IsServedSoFar Turn given left held old new written = (told : List ℕ) × Consumes given left told
    × (bodies : List (List ℕ)) × AreMessages told bodies held × AreServed Turn bodies old new written

-- Of what was read, all messages were served, and the last asked for the end with this status.
abbrev pub IsEndedBy : {S : Type 0} → (List ℕ → S → S → Option ℕ → List ℕ → Type 0)
    → Option (List ℕ) → Option (List ℕ) → S → ℕ → List ℕ → Type 0
IsEndedBy {S} Turn given left old status written = (told : List ℕ) × Consumes given left told
    × (bodies : List (List ℕ)) × (last : List ℕ) × (held : List ℕ)
    × AreMessages told (bodies ++ last ∷ []) held
    × (between : S) × (new : S) × (first : List ℕ) × (rest : List ℕ)
    × AreServed Turn bodies old between first × Turn last between new (Some status) rest
    × (written ≡ first ++ rest)

-- ---- a session that a fault cuts short

-- So much was written of the answer to a body: nothing, as where memory ran out before, or a
-- beginning of what is written where it is answered to its end.
abbrev pub BeginsTurn : {S : Type 0} → (List ℕ → S → S → Option ℕ → List ℕ → Type 0)
    → List ℕ → S → List ℕ → Type 0
BeginsTurn {S} Turn body old written = (written ≡ []) ⊎ ((new : S) × (end : Option ℕ)
    × (all : List ℕ) × (rest : List ℕ) × Turn body old new end all × (all ≡ written ++ rest))

-- Why what was read behind the messages that were served, `held`, has no message that was answered
-- to its end: none was taken of it, and nothing more was written; or one was taken, and so much was
-- written of its answer.
abbrev pub IsUnanswered : {S : Type 0} → (List ℕ → S → S → Option ℕ → List ℕ → Type 0)
    → List ℕ → Option (List ℕ) → S → StreamFault → List ℕ → Type 0
IsUnanswered Turn held left old fault written = (IsUntaken held left fault × (written ≡ []))
    ⊎ ((body : List ℕ) × (behind : List ℕ) × IsFront held body behind × IsUnwritten fault
    × BeginsTurn Turn body old written)

-- Of what was read, all messages but the last were served, and none asked for the end; then this
-- fault came.
abbrev pub IsCutShort : {S : Type 0} → (List ℕ → S → S → Option ℕ → List ℕ → Type 0)
    → Option (List ℕ) → Option (List ℕ) → S → StreamFault → List ℕ → Type 0
IsCutShort {S} Turn given left old fault written = (held : List ℕ) × (between : S)
    × (first : List ℕ) × (rest : List ℕ) × IsServedSoFar Turn given left held old between first
    × IsUnanswered Turn held left between fault rest × (written ≡ first ++ rest)
