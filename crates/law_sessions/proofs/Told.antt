-- What was told of an input, and all of it.
use Rattle.std.proofs.Common.{◌≡◌, ℕ, Bool, true, false, eqb, List, [], ◌∷◌, ◌++◌, refl, sym, ap, ◌∙◌, subst, append_assoc, append-nil, inl, inr}
use Rattle.std.proofs.lemmas.Bool.Decides.{eqb_tells}
use Rattle.std.specs.Io.BufRead.{strip_last}
use Rattle.model.specs.Session.{Session}
use Rattle.model.specs.Commands.{command_of}
use Rattle.model.specs.TextLines.{lines_from, last_line, no_line}
use Rattle.model.specs.Transcript.{Answer, answer_to, serving_after, serving, transcript, transcript_so_far}

abbrev Lines : Type 0
Lines = List (List ℕ)

-- Some bytes are lines and a line begun, whatever still comes.
abbrev Split : List ℕ → List ℕ → Type 0
Split begun bytes = (lines : Lines) × (more : List ℕ) × ((ending : List ℕ → Lines) (rest : List ℕ)
    → lines_from ending begun (bytes ++ rest) ≡ lines ++ lines_from ending more rest)

split_line : (begun bs : List ℕ) → Split [] bs → Split begun (10 ∷ bs)
unfolding lines_from
split_line begun bs c = (strip_last 13 begun ∷ c.0, c.1, λ ending rest. ap (λ l. strip_last 13 begun ∷ l) (c.2 ending rest))

split_byte : (begun bs : List ℕ) (b : ℕ) → eqb b 10 ≡ false → Split (begun ++ b ∷ []) bs
    → Split begun (b ∷ bs)
unfolding lines_from
split_byte begun bs b e c = (c.0, c.1, λ ending rest. rw e (c.2 ending rest))

split : (begun bytes : List ℕ) → Split begun bytes
split begun [] = ([], begun, λ ending rest. refl)
split begun (b ∷ bs) = elim (eqb_tells b 10) [
  | inl h ↦ subst (λ x. Split begun (x ∷ bs)) (sym h.1) (split_line begun bs (split [] bs))
  | inr h ↦ split_byte begun bs b h.0 (split (begun ++ b ∷ []) bs)
]

-- More lines write more after what the first ones write.
abbrev GoesOn : Session → Lines → Lines → Type 0
GoesOn s xs ys = (more : List ℕ) × ((serving s (xs ++ ys)).written ≡ (serving s xs).written ++ more)

goes_on_from : (a : Answer) (xs ys : Lines) → ((t : Session) → GoesOn t xs ys)
    → (more : List ℕ)
    × ((serving_after a (λ t. serving t (xs ++ ys))).written ≡ (serving_after a (λ t. serving t xs)).written ++ more)
goes_on_from a xs ys rest = by a.quit refl
  where
    by : (q : Bool) → a.quit ≡ q → (more : List ℕ) × ((serving_after a (λ t. serving t (xs ++ ys))).written
        ≡ (serving_after a (λ t. serving t xs)).written ++ more)
    by true e = ([], rw e (sym (append-nil a.written)))
    by false e = let r = rest a.session in (r.0, rw e (ap (λ w. a.written ++ w) r.1 ∙ sym (append_assoc a.written (serving a.session xs).written r.0)))

goes_on : (s : Session) (xs ys : Lines) → GoesOn s xs ys
unfolding serving
goes_on s [] ys = ((serving s ys).written, refl)
goes_on s (x ∷ xs) ys = goes_on_from (answer_to (command_of x) s) xs ys (λ t. goes_on t xs ys)

pub told_begins : (s : Session) (told left : List ℕ) → (more : List ℕ)
    × ((transcript s (told ++ left)).written ≡ (transcript_so_far s told).written ++ more)
unfolding lines_from
told_begins s told left =
    let c = split [] told in
    let all = c.2 last_line left in
    let so_far : lines_from no_line [] told ≡ c.0 = ap (lines_from no_line []) (sym (append-nil told)) ∙ c.2 no_line [] ∙ append-nil c.0 in
    let g = goes_on s c.0 (lines_from last_line c.1 left) in
    (g.0, ap (λ l. (serving s l).written) all ∙ g.1 ∙ ap (λ l. (serving s l).written ++ g.0) (sym so_far))
