-- A table whose records are seen by a view.
use Rattle.std.proofs.Common.{◌≡◌, ◌∙◌, ℕ, zero, suc, ◌+◌, ◌-◌, ◌++◌, Bool, true, false, cond, List, [], ◌∷◌, Option, Some, None, Result, Ok, Err, length, map, get_or, set, replicate, refl, sym, ap}
use Rattle.std.proofs.lemmas.List.{length-map, map-append, map-set}
use Rattle.std.specs.Prelude.{is_some, nat_le}
use Rattle.std.specs.Option.{option_map}
use Rattle.debug_records.specs.Faults.{seen}
use Rattle.debug_records.specs.Info.{Table, grown, put_at, record_at, with_new}
use Rattle.debug_records.specs.declared.fault.LineFault.{LineFault}
use Rattle.debug_records.specs.declared.numbers.Placed.{Placed}

-- the record at a number
pub record_seen : {A B : Type 0} (view : A → B) (table : Table A) (number : ℕ)
    → record_at (map (option_map view) table) number ≡ option_map view (record_at table number)
record_seen view [] number = refl
record_seen view (x ∷ table) zero = refl
record_seen view (x ∷ table) (suc number) = record_seen view table number

still_some : {A B : Type 0} (view : A → B) (o : Option A) → is_some (option_map view o) ≡ is_some o
still_some view None = refl
still_some view (Some x) = refl

-- whether there is one
pub taken_seen : {A B : Type 0} (view : A → B) (table : Table A) (number : ℕ)
    → is_some (record_at (map (option_map view) table) number) ≡ is_some (record_at table number)
taken_seen view table number = ap (λ o. is_some o) (record_seen view table number) ∙ still_some view (record_at table number)

empty_seen : {A B : Type 0} (view : A → B) (n : ℕ) → map (option_map view) (replicate n None) ≡ replicate n None
empty_seen view zero = refl
empty_seen view (suc n) = ap (λ t. None ∷ t) (empty_seen view n)

grown_seen : {A B : Type 0} (view : A → B) (table : Table A) (count : ℕ) → map (option_map view) (grown table count) ≡ grown (map (option_map view) table) count
grown_seen view table count =
    map-append (option_map view) table (replicate (count - length table) None)
    ∙ (ap (λ t. map (option_map view) table ++ t) (empty_seen view (count - length table))
    ∙ ap (λ n. map (option_map view) table ++ replicate (count - n) None) (sym (length-map table (option_map view))))

-- the table with a record more
pub put_seen : {A B : Type 0} (view : A → B) (table : Table A) (number : ℕ) (item : A)
    → map (option_map view) (put_at table number item) ≡ put_at (map (option_map view) table) number (view item)
put_seen view table number item =
    map-set (option_map view) (grown table (number + 1)) number (Some item)
    ∙ ap (λ t. set t number (Some (view item))) (grown_seen view table (number + 1))

chosen : {A B : Type 0} (view : A → B) (b t : Bool) (e f : LineFault) (x : Table A) (y : Table B) → map (option_map view) x ≡ y
    → cond b (Err e) (cond t (Err f) (Ok y)) ≡ seen (map (option_map view)) (cond b (Err e) (cond t (Err f) (Ok x)))
chosen view true t e f x y h = refl
chosen view false true e f x y h = refl
chosen view false false e f x y h = ap (λ t. Ok t) (sym h)

-- a record more, or why it is refused
pub new_seen : {A B : Type 0} (view : A → B) (most : ℕ) (table : Table A) (id : Placed) (item : A)
    → with_new most (map (option_map view) table) id (view item) ≡ seen (map (option_map view)) (with_new most table id item)
unfolding with_new
new_seen view most table id item = rw (taken_seen view table id.number)
    (chosen view (nat_le most id.number) (is_some (record_at table id.number)) _ _ (put_at table id.number item) _ (put_seen view table id.number item))

pub new_put : {A B : Type 0} (view : A → B) (most : ℕ) (table new : Table A) (id : Placed) (item : A) → with_new most table id item ≡ Ok new
    → with_new most (map (option_map view) table) id (view item) ≡ Ok (map (option_map view) new)
new_put view most table new id item h = new_seen view most table id item ∙ ap (seen (map (option_map view))) h

pub new_refused : {A B : Type 0} (view : A → B) (most : ℕ) (table : Table A) (id : Placed) (item : A) (fault : LineFault)
    → with_new most table id item ≡ Err fault
    → with_new most (map (option_map view) table) id (view item) ≡ Err fault
new_refused view most table id item fault h = new_seen view most table id item ∙ ap (seen (map (option_map view))) h
