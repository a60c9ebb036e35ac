-- Cells that are the same, and a text that denotes the image of a source.
use Rattle.std.proofs.Common.{◌≡◌, ◌∙◌, ℕ, Bool, true, false, eqb, List, Option, Some, None, Result, Ok, Err, IfOk, ap, refl, subst}
use Rattle.std.proofs.lemmas.Bool.{eqb-false, eqb-true}
use Rattle.std.specs.Option.{option_eq}
use Rattle.model.specs.Source.{Denotes}
use Rattle.model.specs.State.{Map}

module _ {E : Type 0} (bus_map : Map) (source text : List ℕ) (mine given : List (Option ℕ)) (same : given ≡ mine) where
  pub kept_by : (r : Result Bool E) → ((image : List (Option ℕ)) → Denotes bus_map source image → mine ≡ image)
      → IfOk r (λ b. b ≡ true → Denotes bus_map text given)
      → IfOk r (λ b. b ≡ true → (image : List (Option ℕ)) → Denotes bus_map source image → Denotes bus_map text image)
  kept_by (Ok b) only h = λ yes image d. subst (λ (i : List (Option ℕ)). Denotes bus_map text i) (same ∙ only image d) (h yes)
  kept_by (Err e) only h = tt

pub same_cells : (a b : Option ℕ) → option_eq eqb a b ≡ true → a ≡ b
same_cells None None h = refl
same_cells None (Some y) h = cc
same_cells (Some x) None h = cc
same_cells (Some x) (Some y) h = ap Some (eqb-true x y h)

pub apart_cells : (a b : Option ℕ) → option_eq eqb a b ≡ false → a ≡ b → ⊥
apart_cells None None h e = cc
apart_cells None (Some y) h e = cc
apart_cells (Some x) None h e = cc
apart_cells (Some x) (Some y) h e = eqb-false x y h (cc)
