-- A search, an address at a time.
use Rattle.std.proofs.Common.{◌≡◌, ℕ, zero, suc, ◌+◌, ◌<◌, List, [], ◌∷◌, ◌++◌, length, Bool, true, false, Option, Some, None, refl, sym, ap, ◌∙◌, subst, arith, inl, inr, get_or, get_or-set_other, get_or-set_same, length-append}
use Rattle.std.specs.Prelude.{IfSome, if◌then◌else◌, slice_set, slice_index}
use Rattle.std.proofs.lemmas.List.{length-set, get_or_append_left}
use Rattle.std.proofs.Math.Seq.{get_or-append_seam}
use Rattle.std.proofs.lemmas.Bool.Decides.{eqb_tells}
use Rattle.source_forms.specs.Pieces.{is_flagged}
use Rattle.model.specs.declared.instruction.Profile.{Profile}
use Rattle.source_forms.specs.declared.mark.Mark.{Mark}
use Rattle.reached.specs.declared.inline.Inline.{Inline}
use Rattle.reached.specs.Reached.{IsAmong, IsReached, LeadTo, Reaches, ways_at}
use Rattle.reached.specs.declared.ways.Ways.{Ways}
use Rattle.reached.specs.Search.{AreUnset, IsSearch, Seen, unset, with_address}

-- ---- flags

unset_set : (flags : List Bool) (a : ℕ) → a < length flags → is_flagged flags a ≡ false → suc (unset (slice_set flags a true)) ≡ unset flags
unset_set [] a below h = absurd (omega (arith, below))
unset_set (true ∷ fs) zero below h = absurd cc
unset_set (false ∷ fs) zero below h = refl
unset_set (true ∷ fs) (suc a) below h = unset_set fs a (omega (arith, below)) h
unset_set (false ∷ fs) (suc a) below h = ap suc (unset_set fs a (omega (arith, below)) h)

pub unset_more : (flags : List Bool) → unset (flags ++ false ∷ []) ≡ unset flags + 1
unset_more [] = refl
unset_more (true ∷ fs) = unset_more fs
unset_more (false ∷ fs) = omega (arith, unset_more fs)

pub none_more : (flags : List Bool) → ((a : ℕ) → is_flagged flags a ≡ false) → (a : ℕ) → is_flagged (flags ++ false ∷ []) a ≡ false
none_more [] each zero = refl
none_more [] each (suc a) = refl
none_more (f ∷ fs) each zero = each 0
none_more (f ∷ fs) each (suc a) = none_more fs (λ b. each (suc b)) a

pub none_unset : (flags : List Bool) (n : ℕ) → flags ≡ [] → n ≡ 0 → AreUnset n flags
none_unset flags n e zero_n = rw (e, zero_n) (record { size = refl; count = refl; each = λ a. refl })

pub more_unset : (flags new : List Bool) (n : ℕ) → AreUnset n flags → new ≡ flags ++ false ∷ [] → AreUnset (n + 1) new
more_unset flags new n h e = rw e (record {
  size = omega (arith, h.size, length-append flags (false ∷ []));
  count = omega (arith, h.count, unset_more flags);
  each = none_more flags h.each;
})

set_here : (flags : List Bool) (a : ℕ) → a < length flags → is_flagged (slice_set flags a true) a ≡ true
set_here flags a below = get_or-set_same flags a true false below

set_keeps : (flags : List Bool) (a b : ℕ) → a < length flags → is_flagged flags b ≡ true → is_flagged (slice_set flags a true) b ≡ true
set_keeps flags a b below h = elim (eqb_tells b a) [
  | inl same ↦ rw same.1 (set_here flags a below)
  | inr other ↦ get_or-set_other flags a b true false other.1 ∙ h
]

-- ---- one address more

module _ (profile : Profile) (cells : List (Option ℕ)) (marks : List Mark) (routines : List Inline) (starts : List ℕ) where
  abbrev pub Is : ℕ → ℕ → Seen → Type 0
  Is begun done s = IsSearch profile cells marks routines starts begun done s

  abbrev pub CanReach : ℕ → Type 0
  CanReach a = (n : ℕ) × Reaches profile cells marks routines starts n a

  abbrev Added : Seen → ℕ → Bool → Seen
  Added s a x = if x then s else record { flags = slice_set s.flags a true; found = s.found ++ a ∷ [] }

  added : (begun done : ℕ) (s : Seen) (a : ℕ) (x : Bool) → is_flagged s.flags a ≡ x → Is begun done s → a < 65536 → CanReach a → Is begun done (Added s a x)
  added begun done s a true e h below way = h
  added begun done s a false e h below way =
      let inside : a < length s.flags = omega (arith, below, h.size) in
      let more : length (s.found ++ a ∷ []) ≡ length s.found + 1 = length-append s.found (a ∷ []) in
      let front = λ (i : ℕ) (lt : i < length s.found). get_or_append_left s.found (a ∷ []) 0 i lt in
      record {
        size = length-set s.flags a true ∙ h.size;
        count = omega (arith, unset_set s.flags a inside e, more, h.count);
        within = omega (arith, more, h.within);
        reaches = λ b r. elim (eqb_tells b a) [
          | inl same ↦ rw same.1 way
          | inr other ↦ h.reaches b (sym (get_or-set_other s.flags a b true false other.1) ∙ r)
        ];
        among = λ b r. elim (eqb_tells b a) [
          | inl same ↦ (length s.found, omega (arith, more), get_or-append_seam s.found a [] 0 ∙ sym same.1)
          | inr other ↦
              let old : IsAmong s.found b = h.among b (sym (get_or-set_other s.flags a b true false other.1) ∙ r) in
              (old.0, omega (arith, more, old.1), front old.0 old.1 ∙ old.2)
        ];
        flagged = λ i lt. elim (eqb_tells i (length s.found)) [
          | inl same ↦
              let here : slice_index (s.found ++ a ∷ []) i ≡ a = ap (λ (k : ℕ). get_or (s.found ++ a ∷ []) k 0) same.1 ∙ get_or-append_seam s.found a [] 0 in
              rw here (set_here s.flags a inside)
          | inr other ↦
              let before : i < length s.found = omega (arith, lt, more, other.1) in
              rw (front i before) (set_keeps s.flags a (slice_index s.found i) inside (h.flagged i before))
        ];
        starts_in = λ i lt. set_keeps s.flags a (slice_index starts i) inside (h.starts_in i lt);
        closed = λ i b lt lead.
            let before : i < length s.found = omega (arith, lt, h.within) in
            set_keeps s.flags a b inside (h.closed i b lt (subst (λ (k : ℕ). LeadTo (ways_at profile cells marks routines k) b) (front i before) lead));
      }

  pub found_one : (begun done : ℕ) (s : Seen) (a : ℕ) → Is begun done s → a < 65536 → CanReach a → Is begun done (with_address s (Some a))
  found_one begun done s a h below way = added begun done s a (is_flagged s.flags a) refl h below way

  found_way : (begun done : ℕ) (s : Seen) (way : Option ℕ) → Is begun done s → IfSome way (λ a. a < 65536) → ((a : ℕ) → way ≡ Some a → CanReach a)
      → Is begun done (with_address s way)
  found_way begun done s None h below can = h
  found_way begun done s (Some a) h below can = found_one begun done s a h below (can a refl)

  -- what was flagged stays so, and the address is flagged
  added_keeps : (s : Seen) (a b : ℕ) (x : Bool) → a < length s.flags → is_flagged s.flags b ≡ true → is_flagged (Added s a x).flags b ≡ true
  added_keeps s a b true below h = h
  added_keeps s a b false below h = set_keeps s.flags a b below h

  added_here : (s : Seen) (a : ℕ) (x : Bool) → is_flagged s.flags a ≡ x → a < length s.flags → is_flagged (Added s a x).flags a ≡ true
  added_here s a true e below = e
  added_here s a false e below = set_here s.flags a below

  keeps : (s : Seen) (way : Option ℕ) (b : ℕ) → length s.flags ≡ 65536 → IfSome way (λ a. a < 65536) → is_flagged s.flags b ≡ true
      → is_flagged (with_address s way).flags b ≡ true
  keeps s None b size below h = h
  keeps s (Some a) b size below h = added_keeps s a b (is_flagged s.flags a) (omega (arith, below, size)) h

  here : (s : Seen) (way : Option ℕ) (b : ℕ) → length s.flags ≡ 65536 → IfSome way (λ a. a < 65536) → way ≡ Some b
      → is_flagged (with_address s way).flags b ≡ true
  here s None b size below e = absurd cc
  here s (Some a) b size below e =
      let same : a ≡ b = cc in
      subst (λ (k : ℕ). is_flagged (with_address s (Some a)).flags k ≡ true) same (added_here s a (is_flagged s.flags a) refl (omega (arith, below, size)))

  added_found : (s : Seen) (a i : ℕ) (x : Bool) → i < length s.found → (i < length (Added s a x).found)
      × (slice_index (Added s a x).found i ≡ slice_index s.found i)
  added_found s a i true lt = (lt, refl)
  added_found s a i false lt = (omega (arith, lt, length-append s.found (a ∷ [])), get_or_append_left s.found (a ∷ []) 0 i lt)

  same_found : (s : Seen) (way : Option ℕ) (i : ℕ) → i < length s.found → (i < length (with_address s way).found)
      × (slice_index (with_address s way).found i ≡ slice_index s.found i)
  same_found s None i lt = (lt, refl)
  same_found s (Some a) i lt = added_found s a i (is_flagged s.flags a) lt

  -- ---- the starts

  pub nothing : (s : Seen) → AreUnset 65536 s.flags → s.found ≡ [] → Is 0 0 s
  nothing s h e = record {
    size = h.size;
    count = let none : length s.found ≡ 0 = ap length e in omega (arith, h.count, none);
    within = omega arith;
    reaches = λ a r. let never : true ≡ false = sym r ∙ h.each a in absurd cc;
    among = λ a r. let never : true ≡ false = sym r ∙ h.each a in absurd cc;
    flagged = λ i lt. let none : length s.found ≡ 0 = ap length e in absurd (omega (arith, lt, none));
    starts_in = λ i lt. absurd (omega (arith, lt));
    closed = λ i a lt lead. absurd (omega (arith, lt));
  }

  pub began : (s new : Seen) (index a : ℕ) → Is index 0 s → index < length starts → a ≡ slice_index starts index → a < 65536
      → new ≡ with_address s (Some a) → Is (index + 1) 0 new
  unfolding Reaches
  began s new index a h within is below e =
      let more : Is index 0 (with_address s (Some a)) = found_one index 0 s a h below (0, (index, within, sym is)) in
      let set : is_flagged (with_address s (Some a)).flags a ≡ true = here s (Some a) a h.size below refl in
      rw e (record {
        size = more.size;
        count = more.count;
        within = more.within;
        reaches = more.reaches;
        among = more.among;
        flagged = more.flagged;
        starts_in = λ i lt. elim (eqb_tells i index) [
          | inl same ↦ rw (same.1, sym is) set
          | inr other ↦ more.starts_in i (omega (arith, lt, other.1))
        ];
        closed = λ i b lt lead. absurd (omega (arith, lt));
      })

  -- ---- where control goes from an address

  pub went : (begun done address : ℕ) (ways : Ways) (s t new : Seen) → Is begun done s → done < length s.found → address ≡ slice_index s.found done
      → ways ≡ ways_at profile cells marks routines address
      → IfSome ways.target (λ a. a < 65536) → IfSome ways.next (λ a. a < 65536) → t ≡ with_address s ways.target → new ≡ with_address t ways.next
      → Is begun (done + 1) new
  unfolding Reaches
  went begun done address ways s t new h within is leads first second to on =
      let came : CanReach address = rw is (h.reaches (slice_index s.found done) (h.flagged done within)) in
      let can : (a : ℕ) → LeadTo ways a → CanReach a = λ a lead. (suc came.0, (address, came.1, subst (λ (w : Ways). LeadTo w a) leads lead)) in
      let one : Is begun done (with_address s ways.target) = found_way begun done s ways.target h first (λ a e. can a (inl e)) in
      let two : Is begun done (with_address (with_address s ways.target) ways.next) =
      found_way begun done (with_address s ways.target) ways.next one second (λ a e. can a (inr e)) in
      let f = same_found s ways.target done within in
      let g = same_found (with_address s ways.target) ways.next done f.0 in
      rw (on, to) (record {
        size = two.size;
        count = two.count;
        within = omega (arith, g.0);
        reaches = two.reaches;
        among = two.among;
        flagged = two.flagged;
        starts_in = two.starts_in;
        closed = λ i b lt lead. elim (eqb_tells i done) [
          | inl same ↦
              let there : slice_index (with_address (with_address s ways.target) ways.next).found i ≡ address =
              ap (λ (k : ℕ). slice_index (with_address (with_address s ways.target) ways.next).found k) same.1 ∙ g.1 ∙ f.1 ∙ sym is in
              let from : LeadTo (ways_at profile cells marks routines address) b =
              subst (λ (k : ℕ). LeadTo (ways_at profile cells marks routines k) b) there lead in
              elim (subst (λ (w : Ways). LeadTo w b) (sym leads) from) [
                | inl e ↦ keeps (with_address s ways.target) ways.next b one.size second (here s ways.target b h.size first e)
                | inr e ↦ here (with_address s ways.target) ways.next b one.size second e
              ]
          | inr other ↦ two.closed i b (omega (arith, lt, other.1)) lead
        ];
      })

  -- ---- at the end

  all_reached : (s : Seen) → Is (length starts) (length s.found) s → (n a : ℕ) → Reaches profile cells marks routines starts n a → is_flagged s.flags a ≡ true
  unfolding Reaches
  all_reached s h zero a way = rw (sym way.2) (h.starts_in way.0 way.1)
  all_reached s h (suc n) a way =
      let among : IsAmong s.found way.0 = h.among way.0 (all_reached s h n way.0 way.1) in
      h.closed among.0 a among.1 (subst (λ (k : ℕ). LeadTo (ways_at profile cells marks routines k) a) (sym among.2) way.2)

  pub finished : (s : Seen) → Is (length starts) (length s.found) s → IsReached profile cells marks routines starts s.flags
  finished s h = record { size = h.size; only = h.reaches; all = all_reached s h }
