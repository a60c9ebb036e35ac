-- Passes over a table: what is done once they end.
use Rattle.std.proofs.Common.{◌≡◌, ◌∙◌, ℕ, ◌+◌, ◌-◌, ◌<◌, ◌≤◌, ◌||◌, Bool, true, false, List, MatchBool, Option, zero, suc, [], ◌++◌, length, map, get_or, take, replicate, sym, ap, subst, arith, below_more}
use Rattle.std.proofs.Math.Nat.{sub-zero}
use Rattle.std.proofs.Math.Seq.{take-nil}
use Rattle.std.proofs.lemmas.List.{get_or_read_under, length-replicate}
use Rattle.c_frames.proofs.More.{depth_more, rest_more}
use Rattle.c_frames.proofs.Order.{below_both}
use Rattle.c_frames.proofs.Raised.{in_turn}
use Rattle.c_frames.specs.Closures.{AreBegun, AreBelow, AreDepthsClosed, AreRestsClosed, GoesAlong, GoesOn, IsLeast, depth_along, depth_at, depth_behind, rest_by}
use Rattle.c_frames.specs.Programs.{Program}
use Rattle.c_frames.specs.Raising.{Raises, room}
use Rattle.c_frames.specs.Rises.{IsBelow, no_rise}
use Rattle.c_frames.specs.Ways.{ways_at}
use Rattle.c_frames.specs.declared.programs.Function.{Function}
use Rattle.c_frames.specs.declared.rises.Depth.{Depth}
use Rattle.c_frames.specs.declared.rises.Depth.TheVariants.{Unknown, Known}
use Rattle.c_frames.specs.declared.ways.Way.{Way}
use Rattle.c_frames.specs.declared.ways.Ways.{Ways}

changed_by : (First Second : (ℕ → Depth) → Type 0) (old new : List Depth) (x : Bool) → (First (depth_at old) → Second (depth_at old))
    → MatchBool x (room new < room old) ((new ≡ old) × First (depth_at old)) → MatchBool x (room new < room old) ((new ≡ old) × Second (depth_at old))
changed_by First Second old new true done h = h
changed_by First Second old new false done h = (h.0, done h.1)

pub adapted : (Closed Fewer First Second : (ℕ → Depth) → Type 0) (old new : List Depth) (x : Bool)
    → ((others : ℕ → Depth) → Fewer others → Closed others) → (First (depth_at old) → Second (depth_at old))
    → Raises Closed First old new x → Raises Fewer Second old new x
adapted Closed Fewer First Second old new x closed done h = record {
  size = h.size;
  kept = λ others few below. h.kept others (closed others few) below;
  change = changed_by First Second old new x done h.change;
}

-- ---- rests, from the last address to the first

abbrev pub RestsDone : Program → ℕ → (ℕ → Depth) → Type 0
RestsDone p count depths = (k : ℕ) → k < count → IsBelow (rest_by depths (ways_at p (65535 - k))) (depths (65535 - k))

pub rests_further : (p : Program) (old now new : List Depth) (count address : ℕ) (ways : Ways) (rest : Depth) (x y : Bool) → count < 65536
    → address ≡ 65535 - count → ways ≡ ways_at p address → rest ≡ rest_by (depth_at now) ways
    → Raises (AreRestsClosed p) (RestsDone p count) old now x
    → Raises (λ depths. IsBelow rest (depths address)) (λ depths. IsBelow rest (depths address)) now new y
    → Raises (AreRestsClosed p) (RestsDone p (count + 1)) old new (y || x)
rests_further p old now new count address ways rest x y small address_is ways_is rest_is h k =
    let is : rest_by (depth_at now) (ways_at p address) ≡ rest = ap (rest_by (depth_at now)) (sym ways_is) ∙ sym rest_is in
    in_turn (AreRestsClosed p) (RestsDone p count) (λ depths. IsBelow rest (depths address)) (λ depths. IsBelow rest (depths address))
    (RestsDone p (count + 1))
    old now new x y h k
    (λ others closed below. below_both rest (rest_by others (ways_at p address)) (others address)
    (subst (λ d. IsBelow d (rest_by others (ways_at p address))) is (rest_more (depth_at now) others (ways_at p address) below))
    (closed address (omega arith)))
    (λ first second. below_more _ _ first (subst (λ n. IsBelow (rest_by (depth_at now) (ways_at p n)) (depth_at now n)) address_is
    (subst (λ d. IsBelow d (depth_at now address)) (sym is) second)))

all_rests : (p : Program) (depths : ℕ → Depth) → RestsDone p 65536 depths → AreRestsClosed p depths
all_rests p depths done a small =
    let is : 65535 - (65535 - a) ≡ a = omega arith in
    subst (λ n. IsBelow (rest_by depths (ways_at p n)) (depths n)) is (done (65535 - a) (omega arith))

pub rests_raised : (p : Program) (old new : List Depth) (count : ℕ) (x : Bool) → 65536 ≤ count
    → Raises (AreRestsClosed p) (RestsDone p count) old new x → Raises (AreRestsClosed p) (AreRestsClosed p) old new x
rests_raised p old new count x large h = adapted (AreRestsClosed p) (AreRestsClosed p) (RestsDone p count) (AreRestsClosed p) old new x
    (λ others closed. closed) (λ done. all_rests p (depth_at old) (λ k small. done k (omega arith))) h

-- ---- the first bytes of functions

abbrev pub BegunTo : List Function → ℕ → (ℕ → Depth) → Type 0
BegunTo functions count depths = (i : ℕ) → i < count → IsBelow (Known no_rise) (depths (get_or (map (λ function. function.start) functions) i 0))

pub begun_further : (functions : List Function) (old now new : List Depth) (count start : ℕ) (depth : Depth) (x y : Bool) → count < length functions
    → start ≡ get_or (map (λ function. function.start) functions) count 0 → depth ≡ Known no_rise
    → Raises (AreBegun functions) (BegunTo functions count) old now x
    → Raises (λ depths. IsBelow depth (depths start)) (λ depths. IsBelow depth (depths start)) now new y
    → Raises (AreBegun functions) (BegunTo functions (count + 1)) old new (y || x)
begun_further functions old now new count start depth x y small start_is depth_is h k =
    in_turn (AreBegun functions) (BegunTo functions count) (λ depths. IsBelow depth (depths start)) (λ depths. IsBelow depth (depths start))
    (BegunTo functions (count + 1)) old now new x y h k
    (λ others closed below. subst (λ d. IsBelow d (others start)) (sym depth_is) (subst (λ n. IsBelow (Known no_rise) (others n)) (sym start_is)
    (closed count small)))
    (λ first second. below_more _ _ first (subst (λ n. IsBelow (Known no_rise) (depth_at now n)) start_is
    (subst (λ d. IsBelow d (depth_at now start)) depth_is second)))

pub starts_raised : (functions : List Function) (old new : List Depth) (count : ℕ) (x : Bool) → length functions ≤ count
    → Raises (AreBegun functions) (BegunTo functions count) old new x → Raises (AreBegun functions) (AreBegun functions) old new x
starts_raised functions old new count x large h = adapted (AreBegun functions) (AreBegun functions) (BegunTo functions count) (AreBegun functions) old new x
    (λ others closed. closed) (λ done i small. done i (omega arith)) h

-- ---- depths

pub record DepthsDone (p : Program) (rests : ℕ → Depth) (count : ℕ) (depths : ℕ → Depth) : Type 0 where
  pub begun : AreBegun p.functions depths
  pub on : (k : ℕ) → k < count → GoesOn rests (depths k) (ways_at p k) depths

pub depths_begun : (p : Program) (rests : ℕ → Depth) (old new : List Depth) (x : Bool)
    → Raises (AreBegun p.functions) (AreBegun p.functions) old new x → Raises (AreDepthsClosed p rests) (DepthsDone p rests 0) old new x
depths_begun p rests old new x h = adapted (AreBegun p.functions) (AreDepthsClosed p rests) (AreBegun p.functions) (DepthsDone p rests 0) old new x
    (λ others closed. closed.begun) (λ begun. record { begun = begun; on = λ k small. absurd (omega arith) }) h

along_from : (rests : ℕ → Depth) (less more : Depth) (way : Option Way) (depths : ℕ → Depth) → IsBelow less more
    → GoesAlong rests more way depths → GoesAlong rests less way depths
along_from rests less more way depths below goes = below_both (depth_along rests less way) (depth_along rests more way) (depth_behind depths way)
    (depth_more rests less more way below) goes

pub depths_further : (p : Program) (rests : ℕ → Depth) (old now new : List Depth) (count : ℕ) (depth : Depth) (ways : Ways) (x y : Bool) → count < 65536
    → depth ≡ depth_at now count → ways ≡ ways_at p count
    → Raises (AreDepthsClosed p rests) (DepthsDone p rests count) old now x
    → Raises (GoesOn rests depth ways) (GoesOn rests depth ways) now new y
    → Raises (AreDepthsClosed p rests) (DepthsDone p rests (count + 1)) old new (y || x)
depths_further p rests old now new count depth ways x y small depth_is ways_is h k =
    in_turn (AreDepthsClosed p rests) (DepthsDone p rests count) (GoesOn rests depth ways) (GoesOn rests depth ways) (DepthsDone p rests (count + 1))
    old now new x y h k
    (λ others closed below.
    let less : IsBelow depth (others count) = subst (λ d. IsBelow d (others count)) (sym depth_is) (below count) in
    let on : GoesOn rests (others count) ways others = subst (λ w. GoesOn rests (others count) w others) (sym ways_is) (closed.on count small) in
    (along_from rests depth (others count) ways.first others less on.0, along_from rests depth (others count) ways.second others less on.1))
    (λ first second. record {
      begun = first.begun;
      on = below_more _ _ first.on (subst (λ d. GoesOn rests d (ways_at p count) (depth_at now)) depth_is
          (subst (λ w. GoesOn rests depth w (depth_at now)) ways_is second));
    })

pub depths_raised : (p : Program) (rests : ℕ → Depth) (old new : List Depth) (count : ℕ) (x : Bool) → 65536 ≤ count
    → Raises (AreDepthsClosed p rests) (DepthsDone p rests count) old new x
    → Raises (AreDepthsClosed p rests) (AreDepthsClosed p rests) old new x
depths_raised p rests old new count x large h = adapted (AreDepthsClosed p rests) (AreDepthsClosed p rests) (DepthsDone p rests count)
    (AreDepthsClosed p rests) old new x
    (λ others closed. closed) (λ done. record { begun = done.begun; on = λ a small. done.on a (omega arith) }) h

-- ---- until nothing changes

pub record IsRaising (IsClosed : (ℕ → Depth) → Type 0) (table : List Depth) : Type 0 where
  pub size : length table ≡ 65536
  pub least : (others : ℕ → Depth) → IsClosed others → AreBelow (depth_at table) others

pub raising : (IsClosed IsDone : (ℕ → Depth) → Type 0) (old new : List Depth) (x : Bool) → Raises IsClosed IsDone old new x → IsRaising IsClosed old
    → IsRaising IsClosed new
raising IsClosed IsDone old new x h k = record { size = h.size; least = λ others closed. h.kept others closed (k.least others closed) }

pub least_at_end : (IsClosed : (ℕ → Depth) → Type 0) (old new : List Depth) (x : Bool) → x ≡ false → Raises IsClosed IsClosed old new x
    → IsRaising IsClosed old
    → IsLeast IsClosed new
least_at_end IsClosed old new x end h k =
    let done : (new ≡ old) × IsClosed (depth_at old) = subst (λ b. MatchBool b (room new < room old) ((new ≡ old) × IsClosed (depth_at old))) end h.change in
    record {
      size = h.size;
      closed = subst (λ t. IsClosed (depth_at t)) (sym done.0) done.1;
      least = λ others closed. h.kept others closed (k.least others closed);
    }

pub less_each_time : (IsClosed IsDone : (ℕ → Depth) → Type 0) (old new : List Depth) (x : Bool) → x ≡ true → Raises IsClosed IsDone old new x
    → room new < room old
less_each_time IsClosed IsDone old new x on h = subst (λ b. MatchBool b (room new < room old) ((new ≡ old) × IsDone (depth_at old))) on h.change

-- ---- what was read, and what is there at the start

pub depth_read : (table : List Depth) (address : ℕ) (depth : Depth) → length table ≡ 65536 → address < 65536 → depth ≡ get_or table address depth
    → depth ≡ depth_at table address
depth_read table address depth size small read = get_or_read_under table address 65536 depth Unknown read small (sym size)

pub all_unknown : (n m : ℕ) (table new : List Depth) → table ≡ [] → m ≡ 0 → new ≡ take n table ++ replicate (n - m) Unknown → new ≡ replicate n Unknown
all_unknown n m table new empty none is =
    is ∙ (ap (λ t. take n t ++ replicate (n - m) Unknown) empty ∙ (ap (λ k. take n [] ++ replicate (n - k) Unknown) none ∙ simp (take-nil, sub-zero)))

nothing_known : (n a : ℕ) (y : Depth) → IsBelow (get_or (replicate n Unknown) a Unknown) y
nothing_known zero a y = tt
nothing_known (suc n) zero y = tt
nothing_known (suc n) (suc a) y = nothing_known n a y

pub begins_raising : (IsClosed : (ℕ → Depth) → Type 0) (n : ℕ) (table : List Depth) → n ≡ 65536 → table ≡ replicate n Unknown → IsRaising IsClosed table
begins_raising IsClosed n table whole is = record {
  size = ap length is ∙ (length-replicate n Unknown ∙ whole);
  least = λ others closed a. subst (λ t. IsBelow (depth_at t a) (others a)) (sym is) (nothing_known n a (others a));
}
