-- Names that are added to an assembly, one after another.
use Rattle.std.proofs.Common.{◌≡◌, ◌∙◌, ℕ, zero, suc, ◌+◌, ℤ, List, [], ◌∷◌, take, Option, Some, None, IfOk, Result, Ok, Err, refl, sym, ap, add-one}
use Rattle.std.specs.Prelude.{slice_get}
use Rattle.std.specs.Option.{option_to_list}
use Rattle.assembler.specs.Assembly.{AssemblyView, with_other, with_others}

names_suc : (ds : List (List ℕ × ℤ)) (i : ℕ) (a : AssemblyView)
    → with_others (take (suc i) ds) a ≡ with_others (option_to_list (slice_get ds i)) (with_others (take i ds) a)
names_suc [] zero a = refl
names_suc [] (suc i) a = refl
names_suc (d ∷ ds) zero a = refl
names_suc (d ∷ ds) (suc i) a = names_suc ds i (with_other d a)

-- one name more
pub one_more : (ds : List (List ℕ × ℤ)) (i : ℕ) (first a b : AssemblyView) → a ≡ with_others (take i ds) first
    → b ≡ with_others (option_to_list (slice_get ds i)) a → b ≡ with_others (take (i + 1) ds) first
one_more ds i first a b so_far more =
    let left : AssemblyView → AssemblyView = λ (v : AssemblyView). with_others (option_to_list (slice_get ds i)) v in
    rw add-one (more ∙ ap left so_far ∙ sym (names_suc ds i first))

-- the name of an index
pub one_named : (ds : List (List ℕ × ℤ)) (i : ℕ) (d : List ℕ × ℤ) (a b : AssemblyView) → slice_get ds i ≡ Some d → b ≡ with_other d a
    → b ≡ with_others (option_to_list (slice_get ds i)) a
one_named ds i d a b is made = made ∙ sym (ap (λ (o : Option (List ℕ × ℤ)). with_others (option_to_list o) a) is)

pub result_named : {E : Type 0} (r : Result AssemblyView E) (ds : List (List ℕ × ℤ)) (i : ℕ) (d : List ℕ × ℤ) (a : AssemblyView)
    → slice_get ds i ≡ Some d → IfOk r (λ b. b ≡ with_other d a)
    → IfOk r (λ b. b ≡ with_others (option_to_list (slice_get ds i)) a)
result_named (Ok b) ds i d a is made = one_named ds i d a b is made
result_named (Err e) ds i d a is made = tt

-- no name
pub none_named : (ds : List (List ℕ × ℤ)) (i : ℕ) (a : AssemblyView) → slice_get ds i ≡ None → a ≡ with_others (option_to_list (slice_get ds i)) a
none_named ds i a is = sym (ap (λ (o : Option (List ℕ × ℤ)). with_others (option_to_list o) a) is)
