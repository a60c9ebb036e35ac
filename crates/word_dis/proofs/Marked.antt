-- Marks, one address after another.
use Rattle.std.proofs.Common.{◌≡◌, ℕ, ◌+◌, ◌<◌, List, [], ◌∷◌, ◌++◌, length, sym, ap, ◌∙◌, arith, get_or}
use Rattle.std.proofs.lemmas.List.{get_or_append_left}
use Rattle.std.proofs.Math.Seq.{get_or-append_seam}
use borrow.Author.Count.{below_more}
use Rattle.source_forms.specs.declared.mark.Mark.{Mark}
use Rattle.source_forms.specs.declared.mark.Mark.TheVariants.{Code}

-- one mark more
pub more : (items new : List Mark) (n : ℕ) (f : ℕ → Mark) (m : Mark) → length items ≡ n → new ≡ items ++ m ∷ []
    → ((a : ℕ) → a < n → get_or items a Code ≡ f a) → m ≡ f n
    → (a : ℕ) → a < n + 1 → get_or new a Code ≡ f a
more items new n f m size put each last =
    below_more (λ (a : ℕ). get_or new a Code ≡ f a) n
    (λ a h. let inside : a < length items = omega (arith, h, size) in
    ap (λ (x : List Mark). get_or x a Code) put ∙ get_or_append_left items (m ∷ []) Code a inside ∙ each a h)
    (ap (λ (x : List Mark). get_or x n Code) put ∙ ap (λ (k : ℕ). get_or (items ++ m ∷ []) k Code) (sym size) ∙ get_or-append_seam items m [] Code ∙ last)
