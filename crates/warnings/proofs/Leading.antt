-- Where a vector leads, line by line.
use Rattle.std.proofs.Common.{◌≡◌, ℕ, ◌+◌, ◌<◌, ◌≤◌, Bool, true, false, if◌then◌else◌, List, ◌∷◌, length, drop, get_or, Option, None, refl, sym, ap, ◌∙◌}
use Rattle.std.proofs.lemmas.List.{drop_more, drop_all}
use Rattle.warnings.specs.Vectors.{data_at, has_byte_at, if_data, walked, walked_on}
use Rattle.warnings.specs.Views.{placed_view, placed_views}
use Rattle.warnings.specs.declared.placed_line.PlacedLine.{PlacedLine}
use Rattle.warnings.specs.declared.vectors.Walk.{Walk}

first_left : (xs : List PlacedLine) (i : ℕ) (x : PlacedLine) → i < length xs → x ≡ get_or xs i x → drop i xs ≡ x ∷ drop (i + 1) xs
first_left xs i x within is = drop_more xs i x within ∙ ap (λ (y : PlacedLine). y ∷ drop (i + 1) xs) (sym is)

-- ---- data

-- a line by whether it has the byte
opened : (address : ℕ) (ps : List PlacedLine) (i : ℕ) (p : PlacedLine) (has : Bool) → i < length ps → p ≡ get_or ps i p
    → has_byte_at address (placed_view p) ≡ has
    → data_at address (i + 1) (placed_views (drop i ps)) ≡ (if has then if_data (i + 1) (placed_view p).line else data_at address (i + 1 + 1)
    (placed_views (drop (i + 1) ps)))
unfolding data_at
opened address ps i p has within is told =
    let cut : data_at address (i + 1) (placed_views (drop i ps)) ≡ data_at address (i + 1) (placed_views (p ∷ drop (i + 1) ps)) =
    ap (λ (xs : List PlacedLine). data_at address (i + 1) (placed_views xs)) (first_left ps i p within is) in
    cut ∙ ap (λ (t : Bool). if t then if_data (i + 1) (placed_view p).line else data_at address (i + 1 + 1) (placed_views (drop (i + 1) ps))) told

-- the line that has the byte
pub data_here : (address : ℕ) (ps : List PlacedLine) (i n : ℕ) (p : PlacedLine) (answer found : Option ℕ) → i < length ps → p ≡ get_or ps i p
    → n ≡ i + 1 → has_byte_at address (placed_view p) ≡ true
    → found ≡ if_data n (placed_view p).line → data_at address (i + 1) (placed_views (drop i ps)) ≡ answer → found ≡ answer
data_here address ps i n p answer found within is count there same so_far =
    same ∙ ap (λ (m : ℕ). if_data m (placed_view p).line) count ∙ sym (opened address ps i p true within is there) ∙ so_far

-- a line that does not
pub data_later : (address : ℕ) (ps : List PlacedLine) (i : ℕ) (p : PlacedLine) (answer : Option ℕ) → i < length ps → p ≡ get_or ps i p
    → has_byte_at address (placed_view p) ≡ false
    → data_at address (i + 1) (placed_views (drop i ps)) ≡ answer → data_at address (i + 1 + 1) (placed_views (drop (i + 1) ps)) ≡ answer
data_later address ps i p answer within is elsewhere so_far = sym (opened address ps i p false within is elsewhere) ∙ so_far

pub data_nowhere : (address : ℕ) (ps : List PlacedLine) (i : ℕ) (answer : Option ℕ) → length ps ≤ i
    → data_at address (i + 1) (placed_views (drop i ps)) ≡ answer → None ≡ answer
unfolding data_at
data_nowhere address ps i answer past so_far = sym (rw (drop_all i ps past) refl) ∙ so_far

-- ---- a walk

-- a walk through the lines that are left
abbrev pub walks_left : List PlacedLine → ℕ → Walk → Walk
walks_left ps i walk = walked walk (placed_views (drop i ps))

pub walks_on : (ps : List PlacedLine) (i : ℕ) (p : PlacedLine) (walk now total : Walk) → i < length ps → p ≡ get_or ps i p
    → now ≡ walked_on walk (placed_view p) → walks_left ps i walk ≡ total
    → walks_left ps (i + 1) now ≡ total
unfolding walked
walks_on ps i p walk now total within is went so_far =
    let cut : walks_left ps i walk ≡ walked walk (placed_views (p ∷ drop (i + 1) ps)) =
    ap (λ (xs : List PlacedLine). walked walk (placed_views xs)) (first_left ps i p within is) in
    let here : walks_left ps (i + 1) now ≡ walked walk (placed_views (p ∷ drop (i + 1) ps)) = ap (λ (w : Walk). walks_left ps (i + 1) w) went in
    here ∙ sym cut ∙ so_far

pub walks_done : (ps : List PlacedLine) (i : ℕ) (walk total : Walk) → length ps ≤ i → walks_left ps i walk ≡ total → walk ≡ total
unfolding walked
walks_done ps i walk total past so_far = sym (rw (drop_all i ps past) refl) ∙ so_far
