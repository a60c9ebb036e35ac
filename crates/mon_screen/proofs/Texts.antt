-- Rows that were written to a text, one part after another.
use Rattle.std.proofs.Common.{◌≡◌, ◌∙◌, ℕ, List, ◌++◌, sym, ap, append_assoc}
use Rattle.std.proofs.lemmas.Grind.{flat_map-append}
use Rattle.mon_screen.specs.Cells.{ended, written}

both_written : (a b : List (List ℕ)) → written (a ++ b) ≡ written a ++ written b
unfolding written
both_written a b = flat_map-append ended a b

pub joined : (t0 t1 t2 a b : List ℕ) → t1 ≡ t0 ++ a → t2 ≡ t1 ++ b → t2 ≡ t0 ++ (a ++ b)
joined t0 t1 t2 a b e1 e2 = e2 ∙ (ap (λ t. t ++ b) e1 ∙ append_assoc t0 a b)

-- Two parts.
pub rows_joined : (t0 t1 t2 : List ℕ) (a b : List (List ℕ)) → t1 ≡ t0 ++ written a
    → t2 ≡ t1 ++ written b → t2 ≡ t0 ++ written (a ++ b)
rows_joined t0 t1 t2 a b e1 e2 =
    joined t0 t1 t2 (written a) (written b) e1 e2 ∙ ap (λ l. t0 ++ l) (sym (both_written a b))

-- Five parts.
pub five_joined : (t0 t1 t2 t3 t4 t5 : List ℕ) (a b c d e : List (List ℕ))
    → t1 ≡ t0 ++ written a → t2 ≡ t1 ++ written b → t3 ≡ t2 ++ written c
    → t4 ≡ t3 ++ written d → t5 ≡ t4 ++ written e
    → t5 ≡ t0 ++ written (a ++ b ++ c ++ d ++ e)
five_joined t0 t1 t2 t3 t4 t5 a b c d e e1 e2 e3 e4 e5 =
    rows_joined t0 t4 t5 (a ++ b ++ c ++ d) e (rows_joined t0 t3 t4 (a ++ b ++ c) d
    (rows_joined t0 t2 t3 (a ++ b) c (rows_joined t0 t1 t2 a b e1 e2) e3) e4) e5
