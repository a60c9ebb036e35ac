-- Names keep the numbers that their lines give them.
use Rattle.std.proofs.Common.{◌≡◌, ℕ, ℤ, pos, Bool, true, false, List, [], ◌∷◌, ◌++◌, Some, None, is_some, Result, Ok, Err, refl, sym, ap, ◌∙◌, inl, inr, append_assoc, append-nil}
use Rattle.std.specs.Str.{bytes_eq}
use Rattle.std.proofs.lemmas.Bool.{cases_Bool}
use Rattle.std.proofs.lemmas.Slice.Eq.{bytes_eq-Decides}
use Rattle.model.specs.Value.{eval_of}
use Rattle.model.specs.Layout.{placing_value, ◌>>>◌, Context, PlacedLine, PlacedAndContext, IsLaidOut, statement_at, line_at, named_line_at, layout_of, name_of, is_defined, is_full, unless_full, placed_and_context, empty_and_next}
use Rattle.model.specs.declared.expression.ExprFault.{ExprFault}
use Rattle.model.specs.declared.expression.ExprFault.TheVariants as expression
use Rattle.model.specs.declared.source_fault.AsmFaultKind.{AsmFaultKind}
use Rattle.model.specs.declared.source_fault.AsmFaultKind.TheVariants.{DuplicateName}
use Rattle.model.specs.Names.{Definitions, number_in}
use Rattle.model.specs.SourceLine.{Line, labelled, definition, read_line}
use Rattle.model.specs.Source.{NameHolds, NamesHaveTheirNumbers}

abbrev right : (A : Type 0) → A → Result A AsmFaultKind
right A a = Ok a

abbrev wrong : (A : Type 0) → AsmFaultKind → Result A AsmFaultKind
wrong A k = Err k

no_ok : {A : Type 0} (k : AsmFaultKind) (a : A) → wrong A k ≡ Ok a → ⊥
no_ok k a e = cc

ok_same : {A : Type 0} (x y : A) → right A x ≡ Ok y → x ≡ y
ok_same x y e = cc

bind_ok : {A B : Type 0} (r : Result A AsmFaultKind) (f : A → Result B AsmFaultKind) (b : B)
    → r >>> f ≡ Ok b → (a : A) × (r ≡ Ok a) × (f a ≡ Ok b)
bind_ok (Ok a) f b h = (a, refl, h)
bind_ok (Err k) f b h = absurd (no_ok k b h)

-- ---- numbers

same_name : (n : List ℕ) → bytes_eq n n ≡ true
same_name n = (bytes_eq-Decides n n).1 refl

-- a name keeps its number when more names follow
kept : (ds more : Definitions) (n : List ℕ) (v : ℤ) → number_in ds n ≡ Some v
    → number_in (ds ++ more) n ≡ Some v
kept [] more n v h = cc
kept (d ∷ ds) more n v h = elim (cases_Bool (bytes_eq n d.0)) [
  | inl t ↦ let there : Some d.1 ≡ Some v = rw t at h in rw t there
  | inr f ↦ let rest : number_in ds n ≡ Some v = rw f at h in rw f (kept ds more n v rest)
]

-- a new name has the number that it is given
given : (ds : Definitions) (n : List ℕ) (v : ℤ) → is_some (number_in ds n) ≡ false
    → number_in (ds ++ (n, v) ∷ []) n ≡ Some v
given [] n v h = rw (same_name n) refl
given (d ∷ ds) n v h = elim (cases_Bool (bytes_eq n d.0)) [
  | inl t ↦ let there : true ≡ false = rw t at h in absurd cc
  | inr f ↦ let rest : is_some (number_in ds n) ≡ false = rw f at h in rw f (given ds n v rest)
]

-- ---- one line

record Adds (before : Context) (l : Line) (next : Context) : Type 0 where
  more : Definitions
  grown : next.names ≡ before.names ++ more
  holds : NameHolds (number_in next.names) before l

full_ok : (b : Bool) (r : Result PlacedAndContext AsmFaultKind) (q : PlacedAndContext)
    → unless_full b r ≡ Ok q → r ≡ Ok q
full_ok false r q h = h
full_ok true (Ok a) q h = cc
full_ok true (Err k) q h = cc

abbrev fixed_names : PlacedAndContext → Definitions
fixed_names q = q.1.names

placing_ok : (r : Result ℤ ExprFault) (v : ℤ) → placing_value r ≡ Ok v → r ≡ Ok v
placing_ok (Ok w) v h = let same : w ≡ v = ok_same w v h in ap (λ (x : ℤ). Ok x) same
placing_ok (Err expression.UnknownName) v h = cc
placing_ok (Err expression.Range) v h = cc
placing_ok (Err expression.DivideByZero) v h = cc

along : (a b : Definitions) (n : List ℕ) (v : ℤ) → b ≡ a → number_in a n ≡ Some v
    → number_in b n ≡ Some v
along a b n v same h = rw same h

line_adds : (before : Context) (l : Line) (q : PlacedAndContext)
    → is_defined before.names (name_of l) ≡ false → line_at before l ≡ Ok q → Adds before l q.1
line_adds before (labelled None s) q new h =
    let b = bind_ok (statement_at before.profile (number_in (before.names ++ [])) before.address s)
    (λ place. Ok (placed_and_context before.profile (before.names ++ []) place)) q h in
    record { more = []; grown = sym (ap fixed_names (ok_same (placed_and_context before.profile (before.names ++ []) b.0) q b.2)); holds = tt }
line_adds before (labelled (Some n) s) q new h =
    let names = before.names ++ (n, pos before.address) ∷ [] in
    let b = bind_ok (statement_at before.profile (number_in names) before.address s) (λ place. Ok (placed_and_context before.profile names place)) q h in
    let grown : q.1.names ≡ names = sym (ap fixed_names (ok_same (placed_and_context before.profile names b.0) q b.2)) in
    record {
      more = (n, pos before.address) ∷ [];
      grown = grown;
      holds =
          along names q.1.names n (pos before.address) grown (given before.names n (pos before.address) new);
    }
line_adds before (definition n e) q new h =
    let b = bind_ok (placing_value (eval_of (number_in before.names) (pos before.address) e))
    (λ v. Ok (placed_and_context before.profile (before.names ++ (n, v) ∷ []) (empty_and_next before.address before.address))) q h in
    let names = before.names ++ (n, b.0) ∷ [] in
    let grown : q.1.names ≡ names = sym (ap fixed_names (ok_same
    (placed_and_context before.profile names (empty_and_next before.address before.address)) q b.2)) in
    record {
      more = (n, b.0) ∷ [];
      grown = grown;
      holds = (
        b.0,
        placing_ok (eval_of (number_in before.names) (pos before.address) e) b.0 b.1,
        along names q.1.names n b.0 grown
            (given before.names n b.0 new),
      );
    }

fixed_adds : (before : Context) (l : Line) (q : PlacedAndContext) → named_line_at before l ≡ Ok q
    → Adds before l q.1
unfolding named_line_at
fixed_adds before l q h = elim (cases_Bool (is_defined before.names (name_of l))) [
  | inl t ↦ let bad : wrong PlacedAndContext DuplicateName ≡ Ok q = rw t at h in absurd (no_ok DuplicateName q bad)
  | inr f ↦ let good : unless_full (is_full before.names (name_of l)) (line_at before l) ≡ Ok q = rw f at h in
      line_adds before l q f (full_ok _ (line_at before l) q good)
]

-- ---- all lines

read_first : (before : Context) (line : List ℕ) (q : PlacedAndContext)
    → layout_of before line ≡ Ok q → (l : Line) × (read_line before.profile line ≡ Ok l)
    × (named_line_at before l ≡ Ok q)
unfolding layout_of
read_first before line q h = bind_ok (read_line before.profile line) (λ l. named_line_at before l) q h

-- the names of a line stand at the front of all names
grows : (lines : List (List ℕ)) (ps : List PlacedLine) (before all : Context)
    → IsLaidOut before lines ps all → (more : Definitions) × (all.names ≡ before.names ++ more)
grows [] ps before all h = ([], ap (λ (x : Context). x.names) h.1 ∙ sym (append-nil before.names))
grows (line ∷ lines) [] before all h = absurd h
grows (line ∷ lines) (p ∷ ps) before all h =
    let b = read_first before line (p, h.0) h.1 in
    let a = fixed_adds before b.0 (p, h.0) b.2 in
    let r = grows lines ps h.0 all h.2 in
    (a.more ++ r.0, r.1 ∙ ap (λ (x : Definitions). x ++ r.0) a.grown ∙ append_assoc before.names a.more r.0)

holds_later : (ds all more : Definitions) (before : Context) (l : Line) → all ≡ ds ++ more
    → NameHolds (number_in ds) before l → NameHolds (number_in all) before l
holds_later ds all more before (labelled None s) is h = tt
holds_later ds all more before (labelled (Some n) s) is h = along (ds ++ more) all n (pos before.address) is (kept ds more n (pos before.address) h)
holds_later ds all more before (definition n e) is h = (h.0, h.1, along (ds ++ more) all n h.0 is (kept ds more n h.0 h.2))

pub names_hold : NamesHaveTheirNumbers
names_hold [] ps before all h = tt
names_hold (line ∷ lines) [] before all h = tt
names_hold (line ∷ lines) (p ∷ ps) before all h =
    let b = read_first before line (p, h.0) h.1 in
    let a = fixed_adds before b.0 (p, h.0) b.2 in
    let r = grows lines ps h.0 all h.2 in
    (h.0, b.0, h.1, b.1, holds_later h.0.names all.names r.0 before b.0 r.1 a.holds, names_hold lines ps h.0 all h.2)
