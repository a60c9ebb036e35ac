-- The record of a step by what was known before it.
use Rattle.std.proofs.Common.{◌≡◌, ◌∙◌, arith, ℕ, suc, ◌-◌, ◌^◌, ◌<◌, Bool, true, false, List, [], ◌∷◌, ◌++◌, length, Ok, refl, sym, ap, append_assoc, subst}
use Rattle.std.specs.Prelude.{◌==◌, OnOk, Result, Err, bit_xor, nat_lt, not, slice_get}
use Rattle.std.specs.List.{flat_map}
use Rattle.std.specs.Option.{option_to_list}
use Rattle.std.proofs.lemmas.Bool.{ne_eqb}
use Rattle.model.specs.Effect.{status}
use Rattle.model.specs.State.{IsState, State}
use Rattle.model.specs.Step.{step}
use Rattle.accesses.specs.Footprint.{stores_here}
use Rattle.accesses.specs.Moments.{entered, entry_stores, moment_of, stored_by}
use Rattle.accesses.specs.declared.moment.Moment.{Moment}
use Rattle.page_data.specs.Changes.{Tells, flipped}
use Rattle.page_data.specs.Format.{bytes_of, cell, changes_in, counted, eight as eight_of, head, is_any, marks, without_zeros, word}
use Rattle.page_data.specs.Steps.{IsAhead, cells_after, cells_between, cells_of, change_by, change_from, change_of, read_by, stored_cells, with_input}
use Rattle.page_data.specs.declared.ahead.Ahead.{Ahead}
use Rattle.page_data.proofs.Between.{leads_back, leads_forth, step_differs, step_small}
use Rattle.page_data.proofs.Memory.{cells_are}
use Rattle.page_data.proofs.Telling.{told_more}

stored_are : (b : Bool) (s t : State) → cells_after t.bus.memory
    (stored_cells b (cells_of s.bus.memory (entry_stores s.regs.s)) (cells_of s.bus.memory (stores_here s)))
    ≡ cells_between s.bus.memory t.bus.memory (stored_by b s.regs.s (stores_here s))
stored_are true s t = cells_are s.bus.memory t.bus.memory (entry_stores s.regs.s)
stored_are false s t = cells_are s.bus.memory t.bus.memory (stores_here s)

pub change_is : (given : List ℕ) (ahead : Ahead) (s t : State) → IsAhead ahead s → change_from given ahead t ≡ change_of given s t
unfolding change_by change_of
change_is given ahead s t h =
    let moment = h.moment in
    let regs = ap (λ (m : Moment). m.regs) moment in
    let entry = ap (λ (m : Moment). entered m t) moment in
    let cells = λ (b : Bool). ap (λ (pushes : List (ℕ × ℕ)). cells_after t.bus.memory (stored_cells b pushes ahead.stores.items)) h.pushes
    ∙ ap (λ (stores : List (ℕ × ℕ)). cells_after t.bus.memory (stored_cells b (cells_of s.bus.memory (entry_stores s.regs.s)) stores)) h.stores
    ∙ stored_are b s t in
    let reads = ap (λ (m : Moment). read_by (entered m t) m.nmi ahead.reads.items) moment
    ∙ ap (read_by (entered (moment_of s) t) s.nmi) h.reads in
    let stores = ap (λ (b : Bool). cells_after t.bus.memory (stored_cells b ahead.pushes.items ahead.stores.items)) entry ∙ cells (entered (moment_of s) t) in
    let cycles = ap (λ (m : Moment). m.cycles) moment in
    let out = ap (slice_get t.bus.out) h.shown in
    let takes = ap (λ (m : Moment). nat_lt m.taken t.bus.taken) moment in
    let control = ap (λ (m : Moment). flipped m.control t.bus.control) moment in
    let nmi = ap (λ (m : Moment). m.nmi) moment in
    λ i. record {
      cycles = t.cycles - cycles i;
      a = bit_xor (regs i).a t.regs.a;
      x = bit_xor (regs i).x t.regs.x;
      y = bit_xor (regs i).y t.regs.y;
      s = bit_xor (regs i).s t.regs.s;
      p = bit_xor (status false (regs i).flags) (status false t.regs.flags);
      pc = bit_xor (regs i).pc t.regs.pc;
      reads = reads i;
      stores = stores i;
      out = out i;
      takes = takes i;
      control = control i;
      irq = false;
      nmi = nmi i;
      given = given;
      entry = entry i;
    }

-- the theorem's step
pub step_told : (given : List ℕ) (ahead : Ahead) (s t start : State) (front old new : List ℕ) (earlier : List State) → length given < 2 ^ 64
    → new ≡ old ++ bytes_of (change_from given ahead t) → IsAhead ahead s → IsState s → step (with_input given s) ≡ Ok t → Tells start (front ++ old) earlier s
    → Tells start (front ++ new) (earlier ++ s ∷ []) t × (changes_in (front ++ new) ≡ changes_in (front ++ old) ++ change_of given s t ∷ [])
step_told given ahead s t start front old new earlier few e h sound made told =
    let c = change_of given s t in
    let differs = step_differs given s t sound made in
    let grown : (front ++ old) ++ bytes_of c ≡ front ++ new =
    append_assoc front old (bytes_of c) ∙ ap (λ (l : List ℕ). front ++ (old ++ l)) (sym (ap bytes_of (change_is given ahead s t h)))
    ∙ ap (λ (l : List ℕ). front ++ l) (sym e) in
    subst (λ (l : List ℕ). Tells start l (earlier ++ s ∷ []) t × (changes_in l ≡ changes_in (front ++ old) ++ c ∷ [])) grown
    (told_more start s t (front ++ old) earlier c (step_small given s t sound few made) (leads_forth given s t differs) (leads_back given s t differs) told)

-- ---- a record, part by part

pub parts_joined : (old a b c d e f : List ℕ) (x m : ℕ) (present reads stores out given : List ℕ) → a ≡ old ++ x ∷ [] → b ≡ a ++ m ∷ present
    → c ≡ b ++ reads → d ≡ c ++ stores → e ≡ d ++ out → f ≡ e ++ given
    → f ≡ old ++ x ∷ m ∷ (present ++ (reads ++ (stores ++ (out ++ given))))
parts_joined old a b c d e f x m present reads stores out given ea eb ec ed ee ef =
    ef ∙ ap (λ (l : List ℕ). l ++ given) ee ∙ append_assoc d out given
    ∙ ap (λ (l : List ℕ). l ++ (out ++ given)) ed ∙ append_assoc c stores (out ++ given)
    ∙ ap (λ (l : List ℕ). l ++ (stores ++ (out ++ given))) ec ∙ append_assoc b reads (stores ++ (out ++ given))
    ∙ ap (λ (l : List ℕ). l ++ (reads ++ (stores ++ (out ++ given)))) eb ∙ append_assoc a (m ∷ present) (reads ++ (stores ++ (out ++ given)))
    ∙ ap (λ (l : List ℕ). l ++ m ∷ (present ++ (reads ++ (stores ++ (out ++ given))))) ea
    ∙ append_assoc old (x ∷ []) (m ∷ (present ++ (reads ++ (stores ++ (out ++ given)))))

pub any_is : (bytes : List ℕ) → not (length bytes == 0) ≡ is_any bytes
any_is [] = refl
any_is (b ∷ bytes) = ap not (ne_eqb (suc (length bytes)) 0 (λ e. omega (arith, e)))

-- what a call gives where it succeeds
pub on_ok : {X E : Type 0} (r : Result X E) (P Q : Type 0) → OnOk r P → (P → Q) → OnOk r Q
on_ok (Ok x) P Q h f = f h
on_ok (Err e) P Q h f = tt

pub record_pushed : (given : List ℕ) (ahead : Ahead) (t : State) (old a b c d e f eight : List ℕ) (x : ℕ) → a ≡ old ++ x ∷ []
    → x ≡ head (change_from given ahead t) → eight ≡ eight_of (change_from given ahead t)
    → b ≡ a ++ marks eight ∷ without_zeros eight → c ≡ b ++ flat_map word (read_by (entered ahead.moment t) ahead.moment.nmi ahead.reads.items)
    → d ≡ c ++ flat_map cell (cells_after t.bus.memory (stored_cells (entered ahead.moment t) ahead.pushes.items ahead.stores.items))
    → e ≡ d ++ option_to_list (slice_get t.bus.out ahead.shown) → f ≡ e ++ counted given → f ≡ old ++ bytes_of (change_from given ahead t)
unfolding change_by bytes_of
record_pushed given ahead t old a b c d e f eight x ea first changed eb ec ed ee ef =
    let change = change_from given ahead t in
    parts_joined old a b c d e f x (marks eight) (without_zeros eight) (flat_map word change.reads) (flat_map cell change.stores)
    (option_to_list change.out) (counted given) ea eb ec ed ee ef
    ∙ ap (λ (y : ℕ). old ++ y ∷ marks eight ∷ (without_zeros eight
    ++ (flat_map word change.reads ++ (flat_map cell change.stores ++ (option_to_list change.out ++ counted given))))) first
    ∙ ap (λ (l : List ℕ). old ++ head change ∷ marks l ∷ (without_zeros l
    ++ (flat_map word change.reads ++ (flat_map cell change.stores ++ (option_to_list change.out ++ counted given))))) changed
