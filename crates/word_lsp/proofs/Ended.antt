-- What the status says of a session.
use Rattle.std.proofs.Common.{◌≡◌, ◌≤◌, ℕ, List, Option, arith, inl, inr, subst}
use Rattle.word_lsp.specs.Sessions.{IsCut, IsServed, IsSession, status_of}
use Rattle.json_messages.specs.declared.fault.StreamFault.{StreamFault}
use Rattle.json_messages.specs.declared.fault.StreamFault.TheVariants.{NoLength, LongHeader, Cut, Read, Write, OutOfMemory}
use Rattle.model.specs.State.{Map}

-- that of a fault is 3 or 4
pub large : (fault : StreamFault) → 3 ≤ status_of fault
large NoLength = omega arith
large LongHeader = omega arith
large Cut = omega arith
large Read = omega arith
large Write = omega arith
large OutOfMemory = omega arith

pub most : (fault : StreamFault) → status_of fault ≤ 4
most NoLength = omega arith
most LongHeader = omega arith
most Cut = omega arith
most Read = omega arith
most Write = omega arith
most OutOfMemory = omega arith

-- a session on the map that was made
pub ended : (made bus_map : Map) (given left before after : Option (List ℕ)) (status : ℕ) → made ≡ bus_map
    → IsSession made given left status before after → IsServed bus_map given left status before after
ended made bus_map given left before after status same session =
    inl (subst (λ (m : Map). IsSession m given left status before after) same session)

pub cut_off : (made bus_map : Map) (given left before after : Option (List ℕ)) (status : ℕ) (fault : StreamFault) → made ≡ bus_map → status ≡ status_of fault
    → IsCut made given left fault before after → IsServed bus_map given left status before after
cut_off made bus_map given left before after status fault same is cut =
    inr (fault, is, subst (λ (m : Map). IsCut m given left fault before after) same cut)

-- where the status is known
pub served_with : (bus_map : Map) (given left before after : Option (List ℕ)) (status n : ℕ) → IsServed bus_map given left status before after → status ≡ n
    → IsServed bus_map given left n before after
served_with bus_map given left before after status n served is =
    subst (λ (s : ℕ). IsServed bus_map given left s before after) is served

-- 0 and 1 are those of a session that came to its end
pub at_end : (bus_map : Map) (given left before after : Option (List ℕ)) (status n : ℕ) → IsServed bus_map given left status before after → status ≡ n → n ≤ 1
    → IsSession bus_map given left n before after
at_end bus_map given left before after status n (inl session) is small =
    subst (λ (s : ℕ). IsSession bus_map given left s before after) is session
at_end bus_map given left before after status n (inr cut) is small =
    absurd (omega (arith, cut.1, large cut.0, is, small))
