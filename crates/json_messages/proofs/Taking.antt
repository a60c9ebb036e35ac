-- Bytes that are read, and why no message is taken where none are.
use Rattle.std.proofs.Common.{◌≡◌, ◌∙◌, ◌+◌, ◌==◌, Bool, false, if◌then◌else◌, [], ◌∷◌, ◌++◌, List, Option, ap, append-nil, append_assoc, arith, length, length-append, min, sym, ℕ}
use Rattle.std.proofs.lemmas.Bool.{ne_eqb}
use Rattle.json_messages.specs.Taken.{IsUnread, IsUntaken, count_with}
use Rattle.json_messages.specs.declared.fault.StreamFault.{StreamFault}
use Rattle.json_messages.specs.declared.fault.StreamFault.TheVariants as fault

pub untaken : (bytes : List ℕ) (left : Option (List ℕ)) (why : StreamFault) → IsUnread why → IsUntaken bytes left why
untaken bytes left fault.NoLength h = absurd h
untaken bytes left fault.LongHeader h = absurd h
untaken bytes left fault.Cut h = absurd h
untaken bytes left fault.Read h = h
untaken bytes left fault.Write h = h
untaken bytes left fault.OutOfMemory h = h

-- More bytes stand behind those that were read so far.
pub grown : (first held new told more : List ℕ) → held ≡ first ++ told → new ≡ held ++ more → new ≡ first ++ (told ++ more)
grown first held new told more so_far read = read ∙ ap (λ (bytes : List ℕ). bytes ++ more) so_far ∙ append_assoc first told more

-- Some bytes were read.
some_counted : (count t : ℕ) (ts : List ℕ) → count_with count (t ∷ ts) ≡ min (count + length (t ∷ ts)) 18446744073709551615
some_counted count t ts =
    let some : (length (t ∷ ts) == 0) ≡ false = ne_eqb (length (t ∷ ts)) 0 (λ e. omega (arith, e)) in
    ap (λ (b : Bool). if b then count else min (count + length (t ∷ ts)) 18446744073709551615) some

-- So many bytes were read, and then more.
pub counted_more : (first held new : ℕ) (told more : List ℕ) → held ≡ count_with first told → new ≡ count_with held more → new ≡ count_with first (told ++ more)
counted_more first held new [] more so_far read = read ∙ ap (λ (h : ℕ). count_with h more) so_far
counted_more first held new (t ∷ ts) [] so_far read = read ∙ so_far ∙ ap (λ (l : List ℕ). count_with first l) (sym (append-nil (t ∷ ts)))
counted_more first held new (t ∷ ts) (m ∷ ms) so_far read =
    let a : held ≡ min (first + length (t ∷ ts)) 18446744073709551615 = so_far ∙ some_counted first t ts in
    let b : new ≡ min (held + length (m ∷ ms)) 18446744073709551615 = read ∙ some_counted held m ms in
    let c : new ≡ min (first + length ((t ∷ ts) ++ (m ∷ ms))) 18446744073709551615 = omega (arith, length-append (t ∷ ts) (m ∷ ms), a, b) in
    c ∙ sym (some_counted first t (ts ++ m ∷ ms))
