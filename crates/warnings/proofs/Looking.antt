-- Warnings, one line after another.
use Rattle.std.proofs.Common.{◌≡◌, arith, ℕ, zero, suc, ◌+◌, ◌-◌, ◌<◌, ◌≤◌, nat_lt, Bool, true, false, not, ◌||◌, ◌==◌, List, [], ◌∷◌, ◌++◌, length, drop, take, get_or, refl, sym, ap, ◌∙◌, append_assoc, append-nil, Result, Ok, Err}
use Rattle.std.specs.Prelude.{IfOk, OnOk}
use Rattle.std.proofs.lemmas.List.{drop_more, drop_all, length-map, nil_from_length, take_all}
use Rattle.std.proofs.lemmas.Bool.{lt-ltb, ne_eqb}
use Rattle.std.proofs.lemmas.List.Folds.{list_any_at}
use Rattle.std.specs.List.{list_any}
use Rattle.model.specs.Names.{Definitions}
use Rattle.model.specs.TextLines.{lines_from, lines_of}
use Rattle.model.specs.declared.instruction.Profile.{Profile}
use Rattle.model.specs.AllFaults as all
use Rattle.source_faults.specs.Views.{found_all, found_view}
use Rattle.source_faults.specs.declared.found.Found.{Found}
use Rattle.warnings.specs.Flow.{meets, meets_line}
use Rattle.warnings.specs.Placed.{Placed, meaning_of, placed_lines}
use Rattle.warnings.specs.Views.{placed_view, placed_views}
use Rattle.warnings.specs.declared.placed_line.PlacedLine.{PlacedLine}
use Rattle.warnings.specs.Warnings.{Known, cut_off, has_bytes, is_alike, is_short_direct, is_silenced, lines_warnings, name_in, one_if, says_bytes, warnings_found, warnings_in, warnings_with, with_capitals}
use Rattle.warnings.specs.declared.kinds.Warning.{Warning}
use Rattle.warnings.specs.declared.kinds.WarningKind.TheVariants.{AfterEnd}

first_left : (xs : List PlacedLine) (i : ℕ) (x : PlacedLine) → i < length xs → x ≡ get_or xs i x → drop i xs ≡ x ∷ drop (i + 1) xs
first_left xs i x within is = drop_more xs i x within ∙ ap (λ (y : PlacedLine). y ∷ drop (i + 1) xs) (sym is)

-- what is told so far, and what is still to be told from a line on
abbrev pub so_on : Known → List Warning → ℕ → Definitions → List PlacedLine → List Warning
so_on k ws i capitals ps = ws ++ lines_warnings k (i + 1) capitals (placed_views (drop i ps))

rest_length : (n : ℕ) (ps : List PlacedLine) → length (drop n ps) ≤ length ps - n
rest_length zero ps = omega arith
rest_length (suc n) [] = omega arith
rest_length (suc n) (p ∷ ps) = let shorter : length (drop n ps) ≤ length ps - n = rest_length n ps in omega (arith, shorter)

-- a slice up to the end
pub rest_is : (n : ℕ) (ps : List PlacedLine) → take (length ps - n) (drop n ps) ≡ drop n ps
rest_is n ps = take_all (length ps - n) (drop n ps) (rest_length n ps)

-- a line more
pub goes_on : (k : Known) (ws new : List Warning) (i n : ℕ) (capitals now : Definitions) (ps : List PlacedLine) (p : PlacedLine) (alike : Bool)
    (total : List Warning) → i < length ps → p ≡ get_or ps i p
    → n ≡ i + 1 → alike ≡ is_alike capitals (name_in (placed_view p).line) → now ≡ with_capitals (name_in (placed_view p).line) capitals
    → new ≡ ws ++ warnings_with k n alike (placed_view p) (placed_views (drop n ps)) → so_on k ws i capitals ps ≡ total → so_on k new (i + 1) now ps ≡ total
goes_on k ws new i n capitals now ps p alike total within is count same noted told so_far =
    let left : Definitions → List Warning = λ (c : Definitions). lines_warnings k (i + 1 + 1) c (placed_views (drop (i + 1) ps)) in
    let here : ℕ → Bool → List Warning = λ (m : ℕ) (b : Bool). warnings_with k m b (placed_view p) (placed_views (drop m ps)) in
    let opened : so_on k ws i capitals ps ≡ ws ++ (here (i + 1) (is_alike capitals (name_in (placed_view p).line))
    ++ left (with_capitals (name_in (placed_view p).line) capitals)) = rw (first_left ps i p within is) refl in
    ap (λ (x : List Warning). x ++ left now) told
    ∙ append_assoc ws (here n alike) (left now)
    ∙ ap (λ (m : ℕ). ws ++ (here m alike ++ left now)) count
    ∙ ap (λ (b : Bool). ws ++ (here (i + 1) b ++ left now)) same
    ∙ ap (λ (c : Definitions). ws ++ (here (i + 1) (is_alike capitals (name_in (placed_view p).line)) ++ left c)) noted
    ∙ sym opened ∙ so_far

-- no line is left
pub done : (k : Known) (ws : List Warning) (i : ℕ) (capitals : Definitions) (ps : List PlacedLine) (total : List Warning) → length ps ≤ i
    → so_on k ws i capitals ps ≡ total → ws ≡ total
done k ws i capitals ps total past so_far = sym (append-nil ws) ∙ sym (rw (drop_all i ps past) refl) ∙ so_far

-- ---- what is cut off

-- a line without bytes is passed
pub passed : (profile : Profile) (n : ℕ) (rest text behind : List ℕ) (total : List Warning) → lines_of rest ≡ text ∷ lines_of behind
    → says_bytes (meaning_of profile text) ≡ false
    → cut_off profile n (lines_of rest) ≡ total → cut_off profile (n + 1) (lines_of behind) ≡ total
passed profile n rest text behind total cut without so_far =
    let opened : cut_off profile n (lines_of rest) ≡ cut_off profile (n + 1) (lines_of behind) = rw (cut, without) refl in
    sym opened ∙ so_far

-- a line with bytes
pub found : {X E : Type 0} (r : Result X E) (profile : Profile) (n : ℕ) (rest text behind : List ℕ) (first ws new total : List Warning)
    (silenced : Bool) → ws ≡ first → lines_of rest ≡ text ∷ lines_of behind
    → says_bytes (meaning_of profile text) ≡ true → silenced ≡ is_silenced text → OnOk r (new ≡ ws ++ one_if (not silenced) n AfterEnd)
    → cut_off profile n (lines_of rest) ≡ total
    → OnOk r (new ≡ first ++ total)
found (Ok x) profile n rest text behind first ws new total silenced same cut within quiet told so_far =
    let opened : cut_off profile n (lines_of rest) ≡ one_if (not (is_silenced text)) n AfterEnd = rw (cut, within) refl in
    told ∙ ap (λ (x : List Warning). x ++ one_if (not silenced) n AfterEnd) same
    ∙ ap (λ (b : Bool). first ++ one_if (not b) n AfterEnd) quiet ∙ ap (λ (x : List Warning). first ++ x) (sym opened ∙ so_far)
found (Err e) profile n rest text behind first ws new total silenced same cut within quiet told so_far = tt

no_lines : (text : List ℕ) → length text ≡ 0 → lines_of text ≡ []
unfolding lines_from
no_lines text empty = rw (nil_from_length text empty) refl

-- no line is left
pub none_found : (profile : Profile) (n : ℕ) (rest : List ℕ) (first ws total : List Warning) → ws ≡ first → length rest ≡ 0
    → cut_off profile n (lines_of rest) ≡ total → ws ≡ first ++ total
none_found profile n rest first ws total same empty so_far =
    let opened : cut_off profile n (lines_of rest) ≡ [] = rw (no_lines rest empty) refl in
    same ∙ sym (append-nil first) ∙ ap (λ (x : List Warning). first ++ x) (sym opened ∙ so_far)

-- ---- bytes

any_map : (f : Placed → Bool) (ps : List PlacedLine) → list_any f (placed_views ps) ≡ list_any (λ p. f (placed_view p)) ps
any_map f [] = refl
any_map f (p ∷ ps) = ap (λ (b : Bool). f (placed_view p) || b) (any_map f ps)

-- one line is such
pub one_such : (f : Placed → Bool) (ps : List PlacedLine) (i : ℕ) (p : PlacedLine) → i < length ps → p ≡ get_or ps i p → f (placed_view p) ≡ true
    → true ≡ list_any f (placed_views ps)
one_such f ps i p within is such = sym (any_map f ps ∙ list_any_at (λ q. f (placed_view q)) ps i p within
    (ap (λ (q : PlacedLine). f (placed_view q)) (sym is) ∙ such))

-- no line is left
pub none_such : (f : Placed → Bool) (ps : List PlacedLine) (i : ℕ) → length ps ≤ i → list_any (λ p. f (placed_view p)) (take i ps) ≡ false
    → false ≡ list_any f (placed_views ps)
none_such f ps i past none = sym (any_map f ps ∙ ap (λ (x : List PlacedLine). list_any (λ p. f (placed_view p)) x) (sym (take_all i ps past)) ∙ none)

-- a line with a byte
pub one_byte : (ps : List PlacedLine) (i : ℕ) (p : PlacedLine) → i < length ps → p ≡ get_or ps i p → 0 < p.count → true ≡ has_bytes (placed_views ps)
one_byte ps i p within is more = one_such (λ q. nat_lt 0 q.size) ps i p within is (lt-ltb 0 p.count more)

pub no_byte : (ps : List PlacedLine) (i : ℕ) → length ps ≤ i → list_any (λ p. nat_lt 0 p.count) (take i ps) ≡ false → false ≡ has_bytes (placed_views ps)
no_byte ps i past none = none_such (λ q. nat_lt 0 q.size) ps i past none

-- ---- what control comes to

pub meets_nothing : (next : ℕ) (ps : List PlacedLine) (i : ℕ) (answer : Bool) → length ps ≤ i → meets next (placed_views (drop i ps)) ≡ answer → false ≡ answer
unfolding meets
meets_nothing next ps i answer past so_far = sym (rw (drop_all i ps past) refl) ∙ so_far

-- a line without bytes is passed
pub meets_later : (next : ℕ) (ps : List PlacedLine) (i : ℕ) (p : PlacedLine) (answer : Bool) → i < length ps → p ≡ get_or ps i p → p.count ≡ 0
    → meets next (placed_views (drop i ps)) ≡ answer → meets next (placed_views (drop (i + 1) ps)) ≡ answer
unfolding meets
meets_later next ps i p answer within is none so_far =
    let opened : meets next (placed_views (drop i ps)) ≡ meets next (placed_views (drop (i + 1) ps)) = rw (first_left ps i p within is, none) refl in
    sym opened ∙ so_far

not_none : (n : ℕ) → 0 < n → (n == 0) ≡ false
not_none n some = ne_eqb n 0 (λ same. omega (arith, some, same))

-- a line with bytes
pub meets_here : (next : ℕ) (ps : List PlacedLine) (i : ℕ) (p : PlacedLine) (answer found : Bool) → i < length ps → p ≡ get_or ps i p → 0 < p.count
    → found ≡ meets_line next (placed_view p)
    → meets next (placed_views (drop i ps)) ≡ answer → found ≡ answer
unfolding meets
meets_here next ps i p answer found within is some same so_far =
    let is_some : (p.count == 0) ≡ false = not_none p.count some in
    let opened : meets next (placed_views (drop i ps)) ≡ meets_line next (placed_view p) = rw (first_left ps i p within is, is_some) refl in
    same ∙ sym opened ∙ so_far

-- ---- an operand, and all warnings

pub all_three : (marked short small r : Bool) → marked ≡ false → short ≡ true → r ≡ small → r ≡ is_short_direct marked short small
all_three marked short small r unmarked is_short same = same ∙ sym (rw (unmarked, is_short) refl)

-- three parts, one after another
pub in_three : (first second third a b c : List Warning) → first ≡ [] ++ a → second ≡ first ++ b → third ≡ second ++ c → third ≡ a ++ (b ++ c)
in_three first second third a b c one two three =
    three ∙ ap (λ (x : List Warning). x ++ c) (two ∙ ap (λ (x : List Warning). x ++ b) one) ∙ append_assoc a b c

-- the warnings of what the layout found
pub whole : (profile : Profile) (texts : List (List ℕ)) (fs : List Found) (is : List all.Found) (names : Definitions) (lines : List Placed)
    (behind : List (List ℕ)) (ws : List Warning)
    → found_all fs ≡ is → lines ≡ placed_lines profile texts (found_all fs) → behind ≡ drop (length fs) texts → ws ≡ warnings_in profile names lines behind
    → ws ≡ warnings_found profile texts is names
whole profile texts fs is names lines behind ws found_is lines_is behind_is told =
    told ∙ ap (λ (x : List Placed). warnings_in profile names x behind) lines_is
    ∙ ap (λ (x : List (List ℕ)). warnings_in profile names (placed_lines profile texts (found_all fs)) x)
    (behind_is ∙ ap (λ (n : ℕ). drop n texts) (sym (length-map fs found_view)))
    ∙ ap (λ (x : List all.Found). warnings_found profile texts x names) found_is

-- the same of a call's result
pub whole_of : {X E : Type 0} (r : Result X E) (items : X → List Warning) (profile : Profile) (texts : List (List ℕ)) (fs : List Found)
    (names : Definitions) (lines : List Placed) (behind : List (List ℕ))
    → lines ≡ placed_lines profile texts (found_all fs) → behind ≡ drop (length fs) texts → IfOk r (λ w. items w ≡ warnings_in profile names lines behind)
    → IfOk r (λ w. items w ≡ warnings_found profile texts (found_all fs) names)
whole_of (Ok w) items profile texts fs names lines behind lines_is behind_is told =
    whole profile texts fs (found_all fs) names lines behind (items w) refl lines_is behind_is told
whole_of (Err e) items profile texts fs names lines behind lines_is behind_is told = tt
