-- A tape in pieces is the tape whole.
use Rattle.std.proofs.Common.{◌≡◌, ℕ, ◌+◌, ◌<◌, ◌≤◌, List, [], ◌∷◌, ◌++◌, length, map, drop, get_or, drop-cons, add-one, Result, Ok, Err, refl, sym, ap, ◌∙◌, arith}
use Rattle.std.specs.List.{concat}
use Rattle.std.proofs.lemmas.Bool.{lt-leb}
use Rattle.model.specs.declared.tape.TapeFault.{TapeFault}
use Rattle.model.specs.TapePieces.{longest}
use Rattle.papertape.specs.Reading.{Progress, step, run, result_at, read_of, start, ◌>>=◌}
use Rattle.papertape.specs.Feeding.{Fed, nothing_fed, fed, fed_up_to, fed_byte, end_of_feeding, answer_of}

pub fed-append : (limit : ℕ) (xs ys : List ℕ) (s : Fed) → fed_up_to limit s (xs ++ ys) ≡ fed_up_to limit (fed_up_to limit s xs) ys
fed-append limit [] ys s = refl
fed-append limit (x ∷ xs) ys s = fed-append limit xs ys (s >>= λ t. fed_byte limit t x)

pub fed-Err : (limit : ℕ) (xs : List ℕ) (f : TapeFault) → fed_up_to limit (Err f) xs ≡ Err f
fed-Err limit [] f = refl
fed-Err limit (x ∷ xs) f = fed-Err limit xs f

pub fed-run : (limit : ℕ) (xs : List ℕ) (n : ℕ) (s : Progress) → n + length xs ≤ limit
    → fed_up_to limit (Ok (n, s)) xs ≡ (run n s xs >>= λ t. Ok (n + length xs, t))
fed-run limit [] n s h = ap (λ k. Ok (k, s)) (omega arith)
fed-run limit (x ∷ xs) n s h = ap (λ (r : Fed). fed_up_to limit r xs) short ∙ go (step n s x) (λ t. fed-run limit xs (n + 1) t (omega arith)) where
  short : fed_byte limit (n, s) x ≡ (step n s x >>= λ t. Ok (n + 1, t))
  short = let below : n < limit = omega arith in rw (lt-leb limit n below) refl

  go : (r : Result Progress TapeFault) → ((t : Progress) → fed_up_to limit (Ok (n + 1, t)) xs ≡ (run (n + 1) t xs >>= λ u. Ok (n + 1 + length xs, u)))
      → fed_up_to limit (r >>= λ t. Ok (n + 1, t)) xs ≡ ((r >>= λ t. run (n + 1) t xs) >>= λ u. Ok (n + length (x ∷ xs), u))
  go (Err f) k = fed-Err limit xs f
  go (Ok t) k = k t ∙ ap (λ m. run (n + 1) t xs >>= λ u. Ok (m, u)) (omega arith)

pub whole_fed : (limit : ℕ) (text : List ℕ) → length text ≤ limit → end_of_feeding (fed_up_to limit nothing_fed text) ≡ read_of text
unfolding read_of
whole_fed limit text h = ap end_of_feeding (fed-run limit text 0 start (omega arith)) ∙ go (run 0 start text) where
  go : (r : Result Progress TapeFault) → end_of_feeding (r >>= λ t. Ok (0 + length text, t)) ≡ (r >>= λ t. result_at (length text) t)
  go (Err f) = refl
  go (Ok t) = ap (λ k. result_at k t) (omega arith)

-- ---- a list of pieces

-- the next one
pub each_next : {A : Type 0} (f : A → List ℕ) (ps : List A) (i : ℕ) (d : A) (reader : Fed) (all : List ℕ) → i < length ps
    → fed reader (concat (map f (drop i ps))) ≡ fed nothing_fed all
    → fed (fed reader (f (get_or ps i d))) (concat (map f (drop (i + 1) ps))) ≡ fed nothing_fed all
each_next {A = A} f ps i d reader all below h =
    let next : drop i ps ≡ get_or ps i d ∷ drop (i + 1) ps = rw (add-one, drop-cons ps i d) refl in
    sym (fed-append longest (f (get_or ps i d)) (concat (map f (drop (i + 1) ps))) reader) ∙ ap (λ (l : List A). fed reader (concat (map f l))) (sym next) ∙ h

abbrev pub said_ok : Result Unit TapeFault
said_ok = Ok tt

abbrev pub said_err : TapeFault → Result Unit TapeFault
said_err f = Err f

abbrev fed_fault : TapeFault → Fed
fed_fault f = Err f

abbrev fault_in : TapeFault → Result Unit TapeFault → TapeFault
fault_in other (Ok u) = other
fault_in other (Err f) = f

pub not_said : (f : TapeFault) → said_err f ≡ said_ok → ⊥
not_said f e = cc

-- what a call that fails leaves
pub said_fault : (s : Fed) (f : TapeFault) → Err f ≡ answer_of s → s ≡ Err f
said_fault (Ok s) f e = absurd (not_said f e)
said_fault (Err g) f e = ap (λ (r : Result Unit TapeFault). fed_fault (fault_in f r)) (sym e)

pub failed_on : (s : Fed) (f : TapeFault) (rest : List ℕ) (all : Fed) → s ≡ Err f → fed s rest ≡ all → end_of_feeding all ≡ Err f
failed_on s f rest all e h = ap end_of_feeding (sym h ∙ ap (λ (x : Fed). fed x rest) e ∙ fed-Err longest rest f)
