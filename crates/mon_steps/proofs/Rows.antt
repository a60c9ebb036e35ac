-- Rows that are taken back or kept, and steps one by one.
use Rattle.std.proofs.Common.{◌≡◌, ◌∙◌, ℕ, suc, ◌-◌, Bool, true, false, cond, List, [], ◌∷◌, ◌++◌, length, take, drop, refl, sym, ap, append_assoc, append-nil, Result, Ok, Err, arith}
use Rattle.std.proofs.lemmas.Result.{IfOk-weaker}
use Rattle.std.specs.Prelude.{⊤, OnOk}
use Rattle.std.specs.declared.alloc.AllocError.{AllocError}
use Rattle.source_map.specs.Lines.{PlacesView}
use Rattle.mon_runs.specs.declared.watches.Watch.{Watch}
use Rattle.mon_steps.specs.RunLines.{Stand, goes_on, ran}
use Rattle.mon_steps.specs.RunTexts.{one_step_text, stepped_text}

front : (xs ys : List ℕ) → take (length xs) (xs ++ ys) ≡ xs
front [] ys = refl
front (x ∷ xs) ys = ap (λ l. x ∷ l) (front xs ys)

back : (xs ys : List ℕ) → drop (length xs) (xs ++ ys) ≡ ys
back [] ys = refl
back (x ∷ xs) ys = back xs ys

-- what is said in place of a row, or behind it
pub at_row : (f : List ℕ → List ℕ) (t0 t1 row : List ℕ) (n : ℕ) → n ≡ length t0 → t1 ≡ t0 ++ row
    → take n t1 ++ f (drop n t1) ≡ t0 ++ f row
at_row f t0 t1 row n size grown =
    (λ i. take (size i) (grown i) ++ f (drop (size i) (grown i)))
    ∙ (λ i. front t0 row i ++ f (back t0 row i))

-- what is said in place of a row, where the same is said by another name
pub row_said : {X : Type 0} (r : Result X AllocError) (f : List ℕ → List ℕ) (t0 t1 t2 row also : List ℕ) (n : ℕ)
    → n ≡ length t0 → t1 ≡ t0 ++ row → f row ≡ also
    → OnOk r (t2 ≡ take n t1 ++ f (drop n t1)) → OnOk r (t2 ≡ t0 ++ also)
row_said (Ok x) f t0 t1 t2 row also n size grown same said
    = said ∙ at_row f t0 t1 row n size grown ∙ ap (λ l. t0 ++ l) same
row_said (Err fault) f t0 t1 t2 row also n size grown same said = tt

-- other words behind some
pub behind : (r : Result ⊤ AllocError) (t0 t1 t2 a b also : List ℕ) → t1 ≡ t0 ++ a → b ≡ also
    → OnOk r (t2 ≡ t1 ++ b) → OnOk r (t2 ≡ t0 ++ (a ++ also))
behind r t0 t1 t2 a b also first same h =
    IfOk-weaker r (λ _. t2 ≡ t1 ++ b) (λ _. t2 ≡ t0 ++ (a ++ also)) (λ _ last.
    last ∙ (λ i. first i ++ same i) ∙ append_assoc t0 a also) h

first : (n : ℕ) (w : List Watch) (p : PlacesView) (s : Stand)
    → stepped_text (suc n) w p s
    ≡ one_step_text w p s ++ cond (goes_on w s) (stepped_text n w p (ran 1 w s)) []
unfolding stepped_text
first n w p s = refl

none : (w : List Watch) (p : PlacesView) (s : Stand) → stepped_text 0 w p s ≡ []
unfolding stepped_text
none w p s = refl

-- one step of those left, after which they go on
pub text-go : (left n : ℕ) (w : List Watch) (p : PlacesView) (s t : Stand) (b : Bool)
    (whole now new : List ℕ) → whole ≡ now ++ stepped_text left w p s → left ≡ suc n
    → t ≡ ran 1 w s → b ≡ goes_on w s → b ≡ true → new ≡ now ++ one_step_text w p s
    → whole ≡ new ++ stepped_text n w p t
text-go left n w p s t b whole now new h more made on met said =
    h ∙ ap (λ j. now ++ stepped_text j w p s) more ∙ ap (λ l. now ++ l) (first n w p s
    ∙ ap (λ x. one_step_text w p s ++ cond x (stepped_text n w p (ran 1 w s)) []) (sym on ∙ met))
    ∙ sym (append_assoc now (one_step_text w p s) (stepped_text n w p (ran 1 w s)))
    ∙ (λ i. sym said i ++ stepped_text n w p (sym made i))

-- the last step of those left
pub text-end : (left n : ℕ) (w : List Watch) (p : PlacesView) (s : Stand) (b : Bool)
    (whole now new : List ℕ) → whole ≡ now ++ stepped_text left w p s → left ≡ suc n
    → b ≡ goes_on w s → b ≡ false → new ≡ now ++ one_step_text w p s → new ≡ whole
text-end left n w p s b whole now new h more on unmet said =
    said ∙ sym (h ∙ ap (λ j. now ++ stepped_text j w p s) more ∙ ap (λ l. now ++ l) (first n w p s
    ∙ ap (λ x. one_step_text w p s ++ cond x (stepped_text n w p (ran 1 w s)) []) (sym on ∙ unmet)
    ∙ append-nil (one_step_text w p s)))

-- none left
pub text-over : (left : ℕ) (w : List Watch) (p : PlacesView) (s : Stand) (whole now : List ℕ)
    → whole ≡ now ++ stepped_text left w p s → left ≡ 0 → now ≡ whole
text-over left w p s whole now h over =
    sym (h ∙ ap (λ j. now ++ stepped_text j w p s) over ∙ ap (λ l. now ++ l) (none w p s)
    ∙ append-nil now)

-- all left
pub text-begin : (count : ℕ) (w : List Watch) (p : PlacesView) (s : Stand) (now : List ℕ)
    → now ++ stepped_text count w p s ≡ now ++ stepped_text (count - 0) w p s
text-begin count w p s now =
    let all : count - 0 ≡ count = omega arith in ap (λ j. now ++ stepped_text j w p s) (sym all)
