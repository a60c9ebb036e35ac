-- Texts that are appended one after another.
use Rattle.std.proofs.Common.{◌≡◌, ◌∙◌, ℕ, List, ◌++◌, ap, append_assoc}

-- Texts, one behind the other.
pub joined : (t0 t1 t2 a b : List ℕ) → t1 ≡ t0 ++ a → t2 ≡ t1 ++ b → t2 ≡ t0 ++ (a ++ b)
joined t0 t1 t2 a b e1 e2 = e2 ∙ (ap (λ t. t ++ b) e1 ∙ append_assoc t0 a b)

pub three : (t0 t1 t2 t3 a b c : List ℕ) → t1 ≡ t0 ++ a → t2 ≡ t1 ++ b → t3 ≡ t2 ++ c → t3 ≡ t0 ++ (a ++ b ++ c)
three t0 t1 t2 t3 a b c e1 e2 e3 = joined t0 t2 t3 (a ++ b) c (joined t0 t1 t2 a b e1 e2) e3

pub four : (t0 t1 t2 t3 t4 a b c d : List ℕ) → t1 ≡ t0 ++ a → t2 ≡ t1 ++ b → t3 ≡ t2 ++ c → t4 ≡ t3 ++ d
    → t4 ≡ t0 ++ (a ++ b ++ c ++ d)
four t0 t1 t2 t3 t4 a b c d e1 e2 e3 e4 = joined t0 t3 t4 (a ++ b ++ c) d (three t0 t1 t2 t3 a b c e1 e2 e3) e4

pub five : (t0 t1 t2 t3 t4 t5 a b c d e : List ℕ) → t1 ≡ t0 ++ a → t2 ≡ t1 ++ b → t3 ≡ t2 ++ c
    → t4 ≡ t3 ++ d → t5 ≡ t4 ++ e → t5 ≡ t0 ++ (a ++ b ++ c ++ d ++ e)
five t0 t1 t2 t3 t4 t5 a b c d e e1 e2 e3 e4 e5 =
    joined t0 t4 t5 (a ++ b ++ c ++ d) e (four t0 t1 t2 t3 t4 a b c d e1 e2 e3 e4) e5
