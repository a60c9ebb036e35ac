-- Records that tell of some steps tell of one more.
use Rattle.std.proofs.Common.{◌≡◌, ◌∙◌, ℕ, List, [], ◌∷◌, ◌++◌, map, refl, sym, ap, subst}
use Rattle.model.specs.State.{State}
use Rattle.page_data.specs.Changes.{Tells}
use Rattle.page_data.specs.Format.{Change, bytes_of, changes_by, changes_in}
use Rattle.page_data.specs.Start.{start_at, start_bytes}
use Rattle.page_data.specs.Steps.{change_of}
use Rattle.page_data.proofs.Between.{leads_back, leads_forth, step_differs, step_small}
use Rattle.page_data.proofs.Telling.{told_more, told_none}
use Rattle.page_writer.specs.Data.{AreRecords, IsDataOf}
use Rattle.page_writer.specs.Steps.{Made, last_of}
use Rattle.page_writer.specs.Turns.{IsMade}

abbrev before_of : Made → State
before_of m = m.before

abbrev change_in : Made → Change
change_in m = change_of m.given m.before m.after

map_more : {A : Type 0} (f : Made → A) (steps : List Made) (m : Made) → map f (steps ++ m ∷ []) ≡ map f steps ++ f m ∷ []
map_more f [] m = refl
map_more f (n ∷ steps) m = ap (λ l. f n ∷ l) (map_more f steps m)

pub last_more : (s : State) (steps : List Made) (m : Made) → last_of s (steps ++ m ∷ []) ≡ m.after
last_more s [] m = refl
last_more s (n ∷ steps) m = last_more n.after steps m

none_in : changes_in [] ≡ []
unfolding changes_by
none_in = refl

pub no_records : (start : State) → AreRecords start [] []
no_records start = record { changes = none_in; told = told_none start }

pub one_record : (start s t : State) (given : List ℕ) (steps : List Made) (records old new : List ℕ) → AreRecords start steps records
    → last_of start steps ≡ s → IsMade given s t old new
    → AreRecords start (steps ++ record { before = s; given = given; after = t } ∷ []) (records ++ bytes_of (change_of given s t))
one_record start s t given steps records old new h last step =
    let m : Made = record { before = s; given = given; after = t } in
    let c = change_of given s t in
    let differs = step_differs given s t step.sound step.made in
    let told : Tells start records (map before_of steps) s = subst (Tells start records (map before_of steps)) last h.told in
    let more = told_more start s t records (map before_of steps) c (step_small given s t step.sound step.few step.made)
    (leads_forth given s t differs) (leads_back given s t differs) told in
    record {
      changes = more.1 ∙ ap (λ (l : List Change). l ++ c ∷ []) h.changes ∙ sym (map_more change_in steps m);
      told = subst (λ (l : List State). Tells start (records ++ bytes_of c) l (last_of start (steps ++ m ∷ []))) (sym (map_more before_of steps m))
          (subst (λ (x : State). Tells start (records ++ bytes_of c) (map before_of steps ++ s ∷ []) x) (sym (last_more start steps m)) more.0);
    }

-- Records of the same steps, said otherwise.
pub same_steps : (start : State) (steps more : List Made) (records : List ℕ) → more ≡ steps → AreRecords start steps records → AreRecords start more records
same_steps start steps more records is h = subst (λ (l : List Made). AreRecords start l records) (sym is) h

pub whole_data : (start : State) (steps : List Made) (first records bytes : List ℕ) → first ≡ start_bytes start → bytes ≡ first ++ records
    → ((rest : List ℕ) → start_at start.bus.map (start_bytes start ++ rest) ≡ (start, rest)) → AreRecords start steps records → IsDataOf start steps bytes
whole_data start steps first records bytes begins whole read are =
    let all : bytes ≡ start_bytes start ++ records = whole ∙ ap (λ (l : List ℕ). l ++ records) begins in
    record { records = records; whole = all; read = ap (start_at start.bus.map) all ∙ read records; are = are }
