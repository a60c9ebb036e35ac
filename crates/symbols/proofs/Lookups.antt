-- Look-ups and definitions.
use Rattle.std.proofs.Common.{◌≡◌, ℕ, zero, suc, ℤ, cond, List, [], ◌∷◌, ◌++◌, take, nat_eq, Option, None, Some, refl, sym, ap, ◌∙◌, inl, inr, Bool, true, false, ◌<◌, ◌≤◌, arith}
use Rattle.std.specs.Prelude.{position, map, not, nat_lt, length}
use Rattle.std.specs.List.{prefix_len}
use Rattle.std.proofs.lemmas.Bool.{ltb-true, ltb-false, lt-ltb, le-ltb, cases_Bool}
use Rattle.std.specs.Option.{option_map}
use Rattle.std.specs.Map.{lookup}
use Rattle.std.specs.declared.vec.Vec.{Vec}
use Rattle.std.specs.declared.alloc.Global.{Global}
use Rattle.std.specs.Cmp.Lexicographic.{pointwise}
use Rattle.indexmap.specs.IndexMap.{insert_entry}
use Rattle.model.specs.Names.{Definitions, number_in}
use Rattle.symbols.specs.Entries.{definitions_of}

pub lookup_named : (es : List (Vec ℕ Global × ℤ)) (q : List ℕ) → lookup (λ k. pointwise nat_eq q k.items) es ≡ number_in (definitions_of es) q
lookup_named [] q = refl
lookup_named (e ∷ es) q = ap (cond (pointwise nat_eq q e.0.items) (Some e.1)) (lookup_named es q)

none_some : {X : Type 0} (x : X) (o : Option X) → o ≡ None → o ≡ Some x → ⊥
none_some x o a b = cc

pub insert_named : (es : List (Vec ℕ Global × ℤ)) (k : Vec ℕ Global) (v : ℤ) → number_in (definitions_of es) k.items ≡ None
    → definitions_of (insert_entry (λ x y. pointwise nat_eq x.items y.items) es k v) ≡ definitions_of es ++ (k.items, v) ∷ []
insert_named [] k v h = refl
insert_named (e ∷ es) k v h = elim (cases_Bool (pointwise nat_eq k.items e.0.items)) [
  | inl t ↦ absurd (none_some e.1 _ h (rw t refl))
  | inr f ↦
      let rest : number_in (definitions_of es) k.items ≡ None = rw f at h in
      rw f (ap (λ (x : Definitions). (e.0.items, e.1) ∷ x) (insert_named es k v rest))
]

pub number_of_view : (es old : Definitions) (k name : List ℕ) → es ≡ old → k ≡ name → number_in old name ≡ None → number_in es k ≡ None
number_of_view es old k name e f h = ap (λ (x : Definitions). number_in x k) e ∙ ap (number_in old) f ∙ h
