-- When a tape may go on, by what a reader that was fed its bytes says.
use Rattle.std.proofs.Common.{◌≡◌, ◌↔◌, ◌∙◌, ℕ, ◌+◌, ◌<◌, ◌≤◌, Bool, true, false, List, [], ◌∷◌, ◌++◌, length, Result, Ok, Err, refl, sym, ap, subst, arith, is_ok, nat_le, cond}
use Rattle.std.proofs.lemmas.Bool.Decides.{nat_tests}
use Rattle.model.specs.TapePieces.{Tells, longest}
use Rattle.model.specs.declared.tape.TapeFault.{TapeFault}
use Rattle.papertape.specs.Feeding.{Fed, answer_of, fed, fed_byte, fed_up_to, nothing_fed}
use Rattle.papertape.specs.Reading.{Progress, start, step, ◌>>=◌}
use Rattle.papertape.specs.Streaming.{GoesOn}

-- ---- how many bytes were fed

failed : (limit : ℕ) (text : List ℕ) (f : TapeFault) → fed_up_to limit (Err f) text ≡ Err f
failed limit [] f = refl
failed limit (b ∷ text) f = failed limit text f

abbrev next_of : ℕ → Result Progress TapeFault → Fed
next_of n r = r >>= λ t. Ok (n + 1, t)

counted : (n : ℕ) (r : Result Progress TapeFault) (t : ℕ × Progress) → next_of n r ≡ Ok t → t.0 ≡ n + 1
counted n (Ok p) t e = cc
counted n (Err f) t e = absurd cc

below : (limit n : ℕ) (v : Bool) (r : Result Progress TapeFault) (f : TapeFault) (t : ℕ × Progress) → nat_le limit n ≡ v
    → cond v (Err f) (next_of n r) ≡ Ok t → (n < limit) × (t.0 ≡ n + 1)
below limit n true r f t is e = absurd cc
below limit n false r f t is e = (grind (arith, nat_tests), counted n r t e)

one_more : (limit : ℕ) (s : ℕ × Progress) (b : ℕ) (t : ℕ × Progress) → fed_byte limit s b ≡ Ok t → (s.0 < limit) × (t.0 ≡ s.0 + 1)
one_more limit s b t e = below limit s.0 (nat_le limit s.0) (step s.0 s.1 b) _ t refl e

abbrev Fits : ℕ → List ℕ → Type 0
Fits limit text = (s t : ℕ × Progress) → s.0 ≤ limit → fed_up_to limit (Ok s) text ≡ Ok t → s.0 + length text ≤ limit

by_byte : (limit : ℕ) (text : List ℕ) (s t : ℕ × Progress) (b : ℕ) (r : Fed) → Fits limit text → fed_byte limit s b ≡ r → fed_up_to limit r text ≡ Ok t
    → s.0 + length (b ∷ text) ≤ limit
by_byte limit text s t b (Err f) fits is e = let wrong = sym (failed limit text f) ∙ e in absurd cc
by_byte limit text s t b (Ok u) fits is e =
    let more = one_more limit s b u is in
    let rest = fits u t (omega (arith, more.0, more.1)) e in
    omega (arith, more.1, rest)

fits_all : (limit : ℕ) (text : List ℕ) → Fits limit text
fits_all limit [] = λ s t h e. omega (arith, h)
fits_all limit (b ∷ text) = λ s t h e. by_byte limit text s t b (fed_byte limit s b) (fits_all limit text) refl e

-- ---- what was fed

abbrev Told : Type 0
Told = (text : List ℕ) (fault : TapeFault) → length text ≤ longest → (fed nothing_fed text ≡ Err fault) ↔ Tells text fault

not_both : (r : Fed) (t : ℕ × Progress) (f : TapeFault) → r ≡ Ok t → r ≡ Err f → ⊥
not_both r t f a b = absurd cc

right : (text : List ℕ) (t : ℕ × Progress) → Told → fed nothing_fed text ≡ Ok t → GoesOn text
right text t told e =
    let fed_so : 0 + length text ≤ longest = fits_all longest text (0, start) t (omega arith) e in
    let short : length text ≤ longest = omega (arith, fed_so) in
    (short, λ fault tells. not_both (fed nothing_fed text) t fault e ((told text fault short).1 tells))

wrong : (text : List ℕ) (f : TapeFault) → Told → fed nothing_fed text ≡ Err f → GoesOn text → ⊥
wrong text f told e goes = goes.1 f ((told text f goes.0).0 e)

-- ---- the answers of a reader

abbrev Answer : Type 0
Answer = Result (Unit {0}) TapeFault

goes_by : (r : Fed) (answer : Answer) (text : List ℕ) → Told → fed nothing_fed text ≡ r → answer ≡ answer_of r → (is_ok answer ≡ true) ↔ GoesOn text
goes_by (Ok t) answer text told e is = (λ _. right text t told e, λ _. ap is_ok is)
goes_by (Err f) answer text told e is =
    (λ ok. let no : false ≡ true = sym (ap is_ok is) ∙ ok in absurd cc, λ goes. absurd (wrong text f told e goes))

abbrev Cut : Type 0
Cut = (a b : List ℕ) (r : Fed) → fed r (a ++ b) ≡ fed (fed r a) b

abbrev with_next : List ℕ → List ℕ
with_next front = front ++ 59 ∷ []

in_pieces : (front : List ℕ) (r s : Fed) → Cut → r ≡ nothing_fed → s ≡ fed r front → fed nothing_fed (with_next front) ≡ fed s (59 ∷ [])
in_pieces front r s cut new is = cut front (59 ∷ []) nothing_fed ∙ ap (λ q. fed (fed q front) (59 ∷ [])) (sym new) ∙ ap (λ q. fed q (59 ∷ [])) (sym is)

pub goes_after : (front : List ℕ) (r s u : Fed) (answer : Answer) (ok : Bool) → Told → Cut → r ≡ nothing_fed → s ≡ fed r front → u ≡ fed s (59 ∷ [])
    → answer ≡ answer_of u → ok ≡ is_ok answer → (ok ≡ true) ↔ GoesOn (with_next front)
goes_after front r s u answer ok told cut new is then said same =
    subst (λ (b : Bool). (b ≡ true) ↔ GoesOn (with_next front)) (sym same)
    (goes_by u answer (with_next front) told (in_pieces front r s cut new is ∙ sym then) said)

fault_in : (r : Fed) (f : TapeFault) → answer_of r ≡ Err f → r ≡ Err f
fault_in (Ok t) f e = absurd cc
fault_in (Err g) f e = cc

pub stops : (front : List ℕ) (r s : Fed) (answer : Answer) (f : TapeFault) → Told → Cut → r ≡ nothing_fed → s ≡ fed r front → answer ≡ answer_of s
    → answer ≡ Err f
    → (false ≡ true) ↔ GoesOn (with_next front)
stops front r s answer f told cut new is said err =
    let e = in_pieces front r s cut new is ∙ ap (λ q. fed q (59 ∷ [])) (fault_in s f (sym said ∙ err)) ∙ failed longest (59 ∷ []) f in
    (λ no. absurd cc, λ goes. absurd (wrong (with_next front) f told e goes))
