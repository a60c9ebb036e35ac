-- What a change puts back stands in stamped pages alone.
use Rattle.std.proofs.Common.{◌≡◌, ◌≢◌, ℕ, ◌<◌, ◌≤◌, ◌/◌, suc, zero, List, [], ◌∷◌, length, refl, sym, ap, ◌∙◌, arith}
use Rattle.std.specs.Prelude.{slice_index, slice_set}
use Rattle.std.proofs.lemmas.List.{get_or-set_same}
use Rattle.std.proofs.lemmas.List.{get_or-set_other}
use Rattle.model.specs.State.{Bus, bus_with_byte}
use Rattle.model.specs.Undo.{put_cells}
use Rattle.bus.specs.Pages.{AreSameBelow, SparesPage, Stores}

-- bytes put into other pages leave a page
pub put_cells-elsewhere : (cells : List (ℕ × ℕ)) (memory : List ℕ) (k : ℕ) → SparesPage cells (k / 256)
    → slice_index (put_cells cells memory) k ≡ slice_index memory k
put_cells-elsewhere [] memory k h = refl
put_cells-elsewhere (cell ∷ cells) memory k h =
    put_cells-elsewhere cells (slice_set memory cell.0 cell.1) k (λ i inside. h (suc i) (omega (arith, inside)))
    ∙ get_or-set_other memory cell.0 k cell.1 0 (λ same. h zero (omega arith) (ap (λ (n : ℕ). n / 256) (sym same)))

-- A memory that was the same below a number before a change still is, once the change's pages are stamped.
pub still_same : (since now : ℕ) (old new : List ℕ) (cells : List (ℕ × ℕ)) (kept before after : List ℕ) → since ≤ now
    → ((page : ℕ) → slice_index new page < now → slice_index new page ≡ slice_index old page)
    → ((page : ℕ) → slice_index new page < now → SparesPage cells page)
    → put_cells cells after ≡ before → AreSameBelow since old kept before → AreSameBelow since new kept after
still_same since now old new cells kept before after le stays spared back same = λ k within below.
    let here : slice_index new (k / 256) < now = omega (arith, below, le) in
    same k within (omega (arith, below, stays (k / 256) here)) ∙ sym (ap (λ m. slice_index m k) back)
    ∙ put_cells-elsewhere cells after k (spared (k / 256) here)

-- one byte stored, and its page stamped
pub stores_one : (watches : List ℕ) (now : ℕ) (old new : List ℕ) (bus after : Bus) (address value : ℕ) → length old ≡ 256 → address < 65536
    → new ≡ slice_set old (address / 256) now → after ≡ bus_with_byte bus address value
    → slice_index watches address ≡ 0 → Stores watches now old new bus after
stores_one watches now old new bus after address value size within stamped is watch = record {
  same = λ since le kept same k inside below.
      let page = address / 256 in
      let set : slice_index new page ≡ now = ap (λ (l : List ℕ). slice_index l page) stamped ∙ get_or-set_same old page now 0 (omega (arith, size, within)) in
      let other : k / 256 ≢ page = λ e. absurd (omega (arith, below, le, ap (slice_index new) e, set)) in
      let stamp : slice_index new (k / 256) ≡ slice_index old (k / 256) =
      ap (λ (l : List ℕ). slice_index l (k / 256)) stamped ∙ get_or-set_other old page (k / 256) now 0 other in
      let elsewhere : k ≢ address = λ e. other (ap (λ (n : ℕ). n / 256) e) in
      same k inside (omega (arith, below, stamp)) ∙ sym (ap (λ (b : Bus). slice_index b.memory k) is ∙ get_or-set_other bus.memory address k value 0 elsewhere);
  kept = λ k watched. ap (λ (b : Bus). slice_index b.memory k) is
      ∙ get_or-set_other bus.memory address k value 0 (λ e. watched (ap (slice_index watches) e ∙ watch));
  rest = is ∙ ap (λ (b : Bus). record bus { memory = b.memory }) (sym is);
}
