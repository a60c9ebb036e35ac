use Rattle.std.proofs.Common.{◌≡◌, ◌∙◌, ◌++◌, ℕ, ◌+◌, ◌<◌, ◌≤◌, List, drop, get_or, length, sym, ap, arith, append-nil, append_assoc}
use Rattle.std.specs.List.{flat_map}
use Rattle.std.specs.Str.Lines.{lines}
use Rattle.std.proofs.lemmas.Iterator.Consumers.{YieldsList-turn, YieldsList-end}
use Rattle.std.proofs.lemmas.Iterator.Splits.{YieldsList-from_lines}
use Rattle.std.proofs.lemmas.List.{at_drop_more, at_drop_all, length_push}
use Rattle.t65_reports.specs.Reports.{tap_comment}
use Rattle.t65_reports.proofs.reports.push_tap_detail.Goals as goal

one_line_more : (f : List ℕ → List ℕ) (all : List (List ℕ)) (line : List ℕ) (n m : ℕ) (before after whole : List ℕ)
    → (n < length all) × (line ≡ get_or all n line) → m ≡ n + 1 → after ≡ before ++ f line
    → before ++ flat_map f (drop n all) ≡ whole → after ++ flat_map f (drop m all) ≡ whole
one_line_more f all line n m before after whole t e grown so_far =
    let here : flat_map f (drop n all) ≡ f line ++ flat_map f (drop (n + 1) all) =
    at_drop_more (flat_map f) all n line t.0 ∙ ap (λ l. f l ++ flat_map f (drop (n + 1) all)) (sym t.1) in
    ap (λ k. after ++ flat_map f (drop k all)) e
    ∙ (ap (λ x. x ++ flat_map f (drop (n + 1) all)) grown
    ∙ (append_assoc before (f line) (flat_map f (drop (n + 1) all))
    ∙ (ap (λ x. before ++ x) (sym here) ∙ so_far)))

none_left : (f : List ℕ → List ℕ) (all : List (List ℕ)) (n : ℕ) (before whole : List ℕ) → length all ≤ n
    → before ++ flat_map f (drop n all) ≡ whole → before ≡ whole
none_left f all n before whole h so_far =
    sym (append-nil before) ∙ (ap (λ x. before ++ x) (sym (at_drop_all (flat_map f) all n h)) ∙ so_far)

pub loop-line-preserved : goal.loop-line-preserved
loop-line-preserved c =
    let t = YieldsList-turn (YieldsList-from_lines c.args.detail.now cc) c.loop-line.yielded _ c.loop-line.yielded_by _ _ c.in-Some.line c.in-Some.is
    c.next.ensures.steps in
    one_line_more tap_comment (lines c.args.detail.now) c.in-Some.line.now (length c.loop-line.yielded) _ _ _ _ t
    (length_push c.loop-line.yielded c.in-Some.line) c.in_ok-push_tap_comment.ensures c.loop-line.invariant

pub returns : goal.returns
returns c =
    let t = YieldsList-end (YieldsList-from_lines c.args.detail.now cc) c.loop-line.yielded _ c.loop-line.yielded_by _ _ c.in-None.is c.next.ensures.steps in
    none_left tap_comment (lines c.args.detail.now) (length c.loop-line.yielded) _ _ (omega (arith, t.1)) c.loop-line.invariant
