-- The bytes of a state at marked addresses, taken one after another.
use Rattle.std.proofs.Common.{◌≡◌, ◌∙◌, ℕ, ◌+◌, ◌<◌, ◌≤◌, Bool, true, false, List, Option, Some, None, length, refl, sym, ap, subst, arith, inl, inr}
use Rattle.std.specs.Prelude.{if◌then◌else◌, slice_index, slice_set}
use Rattle.std.proofs.lemmas.Bool.{cases_eq, cases_lt}
use Rattle.std.proofs.lemmas.List.{get_or-replicate, get_or-set_other, get_or-set_same, length-replicate, length-set}
use Rattle.accesses.specs.Writing.{is_written}
use Rattle.model.specs.Image.{cell_at, empty_image}
use Rattle.model.specs.State.{State}
use Rattle.debug_files.specs.Loaded.{HasBytesOf, byte_where}

-- The bytes below an address were taken, and none above.
pub record HasBytesBelow (state : State) (marks : List Bool) (image : List (Option ℕ)) (past : ℕ) : Type 0 where
  pub size : length image ≡ 65536
  pub below : (address : ℕ) → address < past → cell_at image address ≡ byte_where (is_written marks address) (slice_index state.bus.memory address)
  pub above : (address : ℕ) → past ≤ address → address < 65536 → cell_at image address ≡ None

pub none_taken : (state : State) (marks : List Bool) (image : List (Option ℕ)) → image ≡ empty_image → HasBytesBelow state marks image 0
unfolding empty_image
none_taken state marks image e = record {
  size = ap length e ∙ length-replicate {A = Option ℕ} 65536 None;
  below = λ address h. absurd (omega (arith, h));
  above = λ address h k. ap (λ i. cell_at i address) e ∙ get_or-replicate {A = Option ℕ} 65536 address None None k;
}

taken_here : (state : State) (marks : List Bool) (image : List (Option ℕ)) (past : ℕ) (b : Bool) → is_written marks past ≡ b → past < 65536
    → HasBytesBelow state marks image past
    → cell_at (if b then slice_set image past (Some (slice_index state.bus.memory past)) else image) past ≡ byte_where b (slice_index state.bus.memory past)
taken_here state marks image past true e h t = get_or-set_same image past _ None (omega (arith, t.size, h))
taken_here state marks image past false e h t = t.above past (omega arith) h

kept_there : (image : List (Option ℕ)) (past address byte : ℕ) (b : Bool) → (address ≡ past → ⊥)
    → cell_at (if b then slice_set image past (Some byte) else image) address ≡ cell_at image address
kept_there image past address byte true other = get_or-set_other image past address (Some byte) None other
kept_there image past address byte false other = refl

size_kept : (image : List (Option ℕ)) (past byte : ℕ) (b : Bool) → length (if b then slice_set image past (Some byte) else image) ≡ length image
size_kept image past byte true = length-set image past (Some byte)
size_kept image past byte false = refl

pub byte_taken : (state : State) (marks : List Bool) (image new : List (Option ℕ)) (past : ℕ) → past < 65536
    → new ≡ (if is_written marks past then slice_set image past (Some (slice_index state.bus.memory past)) else image)
    → HasBytesBelow state marks image past → HasBytesBelow state marks new (past + 1)
byte_taken state marks image new past h e t =
    let byte = slice_index state.bus.memory past in
    let b = is_written marks past in
    record {
      size = ap length e ∙ (size_kept image past byte b ∙ t.size);
      below = λ address k. elim (cases_eq address past) [
        | inl same ↦ subst (λ a. cell_at new a ≡ byte_where (is_written marks a) (slice_index state.bus.memory a)) (sym same)
            (ap (λ i. cell_at i past) e ∙ taken_here state marks image past b refl h t)
        | inr other ↦ ap (λ i. cell_at i address) e ∙ (kept_there image past address byte b other ∙ t.below address (omega (arith, k, other)))
      ];
      above = λ address k l. ap (λ i. cell_at i address) e ∙
          (kept_there image past address byte b (λ same. omega (arith, same, k)) ∙ t.above address (omega (arith, k)) l);
    }

pub all_taken : (state : State) (marks : List Bool) (image : List (Option ℕ)) (past : ℕ) → past ≡ 65536 → HasBytesBelow state marks image past
    → HasBytesOf state marks image
all_taken state marks image past e t = record {
  bytes = λ address h. t.below address (omega (arith, e, h));
}
