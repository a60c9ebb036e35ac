-- Tables that are raised, once and in turn.
use Rattle.std.proofs.Common.{◌≡◌, ◌∙◌, ℕ, ◌<◌, ◌||◌, Bool, true, false, List, MatchBool, sym, subst, arith}
use Rattle.c_frames.specs.Closures.{AreBelow, depth_at}
use Rattle.c_frames.specs.Raising.{Raises, room}
use Rattle.c_frames.specs.declared.rises.Depth.{Depth}

-- ---- two in turn

changed_in_turn : (First Second Both : (ℕ → Depth) → Type 0) (a b c : List Depth) (x y : Bool)
    → MatchBool x (room b < room a) ((b ≡ a) × First (depth_at a))
    → MatchBool y (room c < room b) ((c ≡ b) × Second (depth_at b))
    → (First (depth_at b) → Second (depth_at b) → Both (depth_at b))
    → MatchBool (y || x) (room c < room a) ((c ≡ a) × Both (depth_at a))
changed_in_turn First Second Both a b c true true h k both = omega (arith, h, k)
changed_in_turn First Second Both a b c false true h k both = subst (λ t. room c < room t) h.0 k
changed_in_turn First Second Both a b c true false h k both = subst (λ t. room t < room a) (sym k.0) h
changed_in_turn First Second Both a b c false false h k both =
    (k.0 ∙ h.0, subst (λ t. Both (depth_at t)) h.0 (both (subst (λ t. First (depth_at t)) (sym h.0) h.1) k.1))

pub in_turn : (Closed First Later Second Both : (ℕ → Depth) → Type 0) (a b c : List Depth) (x y : Bool)
    → Raises Closed First a b x → Raises Later Second b c y
    → ((others : ℕ → Depth) → Closed others → AreBelow (depth_at b) others → Later others)
    → (First (depth_at b) → Second (depth_at b) → Both (depth_at b))
    → Raises Closed Both a c (y || x)
in_turn Closed First Later Second Both a b c x y h k later both = record {
  size = k.size;
  kept = λ others closed below.
      let before = h.kept others closed below in k.kept others (later others closed before) before;
  change = changed_in_turn First Second Both a b c x y h.change k.change both;
}
