-- What is known of a rise, in order.
use Rattle.std.proofs.Common.{◌≡◌, ◌∙◌, ◌==◌, ◌&&◌, ℕ, Bool, true, false, cond, refl, sym, ap, subst}
use Rattle.std.proofs.lemmas.Bool.{eqb-true, eq-eqb, and_from}
use Rattle.c_frames.specs.Closures.{returned}
use Rattle.c_frames.specs.Rises.{IsBelow, joined, risen, same, summed}
use Rattle.c_frames.specs.declared.rises.Rise.{Rise}
use Rattle.c_frames.specs.declared.rises.Depth.{Depth}
use Rattle.c_frames.specs.declared.rises.Depth.TheVariants.{Unknown, Known, Differing}

both_true : (x y : Bool) → (x && y) ≡ true → (x ≡ true) × (y ≡ true)
both_true true true h = (refl, refl)
both_true true false h = cc
both_true false y h = cc

pub same_is : (a b : Rise) → same a b ≡ true → a ≡ b
same_is a b h =
    let both = both_true (a.sp == b.sp) (a.s == b.s) h in
    ap (λ (n : ℕ). let r : Rise = record { sp = n; s = a.s } in r) (eqb-true a.sp b.sp both.0)
    ∙ ap (λ (n : ℕ). let r : Rise = record { sp = b.sp; s = n } in r) (eqb-true a.s b.s both.1)

pub same_self : (a : Rise) → same a a ≡ true
same_self a = and_from _ _ (eq-eqb a.sp a.sp refl) (eq-eqb a.s a.s refl)

pub below_self : (x : Depth) → IsBelow x x
below_self Unknown = tt
below_self (Known a) = refl
below_self Differing = tt

pub below_both : (x y z : Depth) → IsBelow x y → IsBelow y z → IsBelow x z
below_both Unknown y z h k = tt
below_both (Known a) Unknown z h k = absurd h
below_both (Known a) (Known b) Unknown h k = absurd k
below_both (Known a) (Known b) (Known c) h k = h ∙ k
below_both (Known a) (Known b) Differing h k = tt
below_both (Known a) Differing Unknown h k = absurd k
below_both (Known a) Differing (Known c) h k = absurd k
below_both (Known a) Differing Differing h k = tt
below_both Differing Unknown z h k = absurd h
below_both Differing (Known b) z h k = absurd h
below_both Differing Differing z h k = k

-- ---- where ways come together

known_joined : (t : Bool) (a : Rise) (z : Depth) → IsBelow (Known a) z → (t ≡ false → IsBelow Differing z) → IsBelow (cond t (Known a) Differing) z
known_joined true a z h k = h
known_joined false a z h k = k refl

differ : (a b c : Rise) → a ≡ c → b ≡ c → same a b ≡ false → ⊥
differ a b c h k f = let t : same a b ≡ true = subst (λ r. same a r ≡ true) (h ∙ sym k) (same_self a) in cc

pub joined_least : (x y z : Depth) → IsBelow x z → IsBelow y z → IsBelow (joined x y) z
joined_least Unknown y z h k = k
joined_least (Known a) Unknown z h k = h
joined_least (Known a) (Known b) Unknown h k = absurd h
joined_least (Known a) (Known b) (Known c) h k = known_joined (same a b) a (Known c) h (λ f. absurd (differ a b c h k f))
joined_least (Known a) (Known b) Differing h k = known_joined (same a b) a Differing tt (λ f. tt)
joined_least (Known a) Differing z h k = k
joined_least Differing y z h k = h

over_first : (t : Bool) (a : Rise) → IsBelow (Known a) (cond t (Known a) Differing)
over_first true a = refl
over_first false a = tt

pub joined_first : (x y : Depth) → IsBelow x (joined x y)
joined_first Unknown y = tt
joined_first (Known a) Unknown = refl
joined_first (Known a) (Known b) = over_first (same a b) a
joined_first (Known a) Differing = tt
joined_first Differing y = tt

over_second : (t : Bool) (a b : Rise) → same a b ≡ t → IsBelow (Known b) (cond t (Known a) Differing)
over_second true a b h = sym (same_is a b h)
over_second false a b h = tt

pub below_top : (y : Depth) → IsBelow y Differing
below_top Unknown = tt
below_top (Known a) = tt
below_top Differing = tt

pub joined_second : (x y : Depth) → IsBelow y (joined x y)
joined_second Unknown y = below_self y
joined_second (Known a) Unknown = tt
joined_second (Known a) (Known b) = over_second (same a b) a b refl
joined_second (Known a) Differing = tt
joined_second Differing y = below_top y

pub joined_more : (x x' y y' : Depth) → IsBelow x x' → IsBelow y y' → IsBelow (joined x y) (joined x' y')
joined_more x x' y y' h k = joined_least x y (joined x' y')
    (below_both x x' (joined x' y') h (joined_first x' y')) (below_both y y' (joined x' y') k (joined_second x' y'))

-- ---- one rise and then another

summed_second : (x y y' : Depth) → IsBelow y y' → IsBelow (summed x y) (summed x y')
summed_second Unknown y y' h = tt
summed_second (Known a) Unknown y' h = tt
summed_second (Known a) (Known b) Unknown h = absurd h
summed_second (Known a) (Known b) (Known b') h = ap (risen a) h
summed_second (Known a) (Known b) Differing h = tt
summed_second (Known a) Differing Unknown h = absurd h
summed_second (Known a) Differing (Known b') h = absurd h
summed_second (Known a) Differing Differing h = tt
summed_second Differing Unknown y' h = tt
summed_second Differing (Known b) Unknown h = absurd h
summed_second Differing (Known b) (Known b') h = tt
summed_second Differing (Known b) Differing h = tt
summed_second Differing Differing Unknown h = absurd h
summed_second Differing Differing (Known b') h = absurd h
summed_second Differing Differing Differing h = tt

summed_top : (a : Rise) (y : Depth) → IsBelow (summed (Known a) y) (summed Differing y)
summed_top a Unknown = tt
summed_top a (Known b) = tt
summed_top a Differing = tt

summed_first : (x x' y : Depth) → IsBelow x x' → IsBelow (summed x y) (summed x' y)
summed_first Unknown x' y h = tt
summed_first (Known a) Unknown y h = absurd h
summed_first (Known a) (Known a') y h = subst (λ r. IsBelow (summed (Known a) y) (summed (Known r) y)) h (below_self (summed (Known a) y))
summed_first (Known a) Differing y h = summed_top a y
summed_first Differing Unknown y h = absurd h
summed_first Differing (Known a') y h = absurd h
summed_first Differing Differing y h = below_self (summed Differing y)

pub summed_more : (x x' y y' : Depth) → IsBelow x x' → IsBelow y y' → IsBelow (summed x y) (summed x' y')
summed_more x x' y y' h k = below_both (summed x y) (summed x' y) (summed x' y') (summed_first x x' y h) (summed_second x' y y' k)

returned_known : (a : Rise) → IsBelow (returned (Known a)) Differing
returned_known a = below_top (returned (Known a))

pub returned_more : (x x' : Depth) → IsBelow x x' → IsBelow (returned x) (returned x')
returned_more Unknown x' h = tt
returned_more (Known a) Unknown h = absurd h
returned_more (Known a) (Known a') h = subst (λ r. IsBelow (returned (Known a)) (returned (Known r))) h (below_self (returned (Known a)))
returned_more (Known a) Differing h = returned_known a
returned_more Differing Unknown h = absurd h
returned_more Differing (Known a') h = absurd h
returned_more Differing Differing h = tt
