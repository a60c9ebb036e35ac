-- Watches set and cleared one after another.
use Rattle.std.proofs.Common.{◌≡◌, ◌∙◌, ℕ, zero, suc, Bool, true, false, ◌+◌, ◌<◌, ◌≤◌, List, [], ◌∷◌, ◌++◌, length, get_or, drop, refl, sym, ap, add-one, arith, drop-cons}
use Rattle.std.proofs.Math.Bool.{and_assoc}
use Rattle.std.proofs.lemmas.Grind.{common_steps}
use Rattle.std.proofs.lemmas.List.{drop_all}
use Rattle.std.specs.Prelude.{◌&&◌, Err, IfErr, Ok, OnOk, Result}
use Rattle.dap_messages.specs.declared.request.DataBreakpoint.{DataBreakpoint}
use Rattle.mon_lines.specs.declared.command.WatchKind.{WatchKind}
use Rattle.mon_runs.specs.Stops.{has_access}
use Rattle.dap_views.specs.Watches.{Watched, all_unset, has_all, unset, watches_in, watches_of, with_all, with_one}
use Rattle.model.specs.Breakpoints.{watch_cleared}
use Rattle.model.specs.Session.{Session}
use Rattle.model.specs.declared.session_fault.SessionFault.{SessionFault}
use Rattle.mon_settings.specs.StopLines.{or_same}
use Rattle.mon_runs.specs.declared.watches.Watch.{Watch}

-- ---- watches cleared

pub unset_by : (r : Result Unit SessionFault) (address : ℕ) (old new : Session) → OnOk r (watch_cleared address old ≡ Ok new)
    → IfErr r (λ fault. (watch_cleared address old ≡ Err fault) × (new ≡ old)) → new ≡ unset address old
unset_by (Ok done) address old new is failed = sym (ap (or_same old) is)
unset_by (Err fault) address old new is failed = failed.1 ∙ sym (ap (or_same old) failed.0)

pub unset_more : (addresses : List ℕ) (i : ℕ) → i < length addresses → (s : Session)
    → all_unset (drop i addresses) s ≡ all_unset (drop (i + 1) addresses) (unset (get_or addresses i 0) s)
unset_more addresses i h s =
    let cons : drop i addresses ≡ get_or addresses i 0 ∷ drop (i + 1) addresses = rw add-one (drop-cons addresses i 0 h) in
    ap (λ l. all_unset l s) cons

pub unset_none : (addresses : List ℕ) (i : ℕ) → length addresses ≤ i → (s : Session) → all_unset (drop i addresses) s ≡ s
unset_none addresses i h s =
    let e : drop i addresses ≡ [] = grind (arith, common_steps) in ap (λ l. all_unset l s) e

-- ---- watches set

with_both : (some more : List Watch) (p : Watched) → with_all (some ++ more) p ≡ with_all more (with_all some p)
with_both [] more p = refl
with_both (watch ∷ some) more p = with_both some more (with_one watch p)

-- those that are still to be set
abbrev pub left_set : List DataBreakpoint → ℕ → Watched → Watched
left_set all i p = with_all (watches_in (drop i all)) p

pub set_more : (all : List DataBreakpoint) (i : ℕ) (e : DataBreakpoint) (whole p q : Watched) → i < length all → q ≡ with_all (watches_of (get_or all i e)) p
    → whole ≡ left_set all i p → whole ≡ left_set all (i + 1) q
set_more all i e whole p q within set so_far =
    let byte = get_or all i e in
    let cons : drop i all ≡ byte ∷ drop (i + 1) all = rw add-one (drop-cons all i e within) in
    let rest = watches_in (drop (i + 1) all) in
    so_far ∙ ap (λ (bytes : List DataBreakpoint). with_all (watches_in bytes) p) cons ∙ with_both (watches_of byte) rest p ∙ ap (with_all rest) (sym set)

pub set_done : (all : List DataBreakpoint) (i : ℕ) (whole p : Watched) → length all ≤ i → whole ≡ left_set all i p → whole ≡ p
set_done all i whole p over so_far = so_far ∙ ap (λ (vs : List DataBreakpoint). with_all (watches_in vs) p) (drop_all i all over)

-- ---- bytes one after another

one_more : (kind : WatchKind) (watches : List Watch) (n m address : ℕ) → n ≡ m + 1
    → has_all kind watches n address ≡ (has_access kind address watches && has_all kind watches m (address + 1))
unfolding has_all
one_more kind watches zero m address e = absurd (omega (arith, e))
one_more kind watches (suc n) m address e =
    let same : n ≡ m = omega (arith, e) in
    ap (λ (k : ℕ). has_access kind address watches && has_all kind watches k (address + 1)) same

pub all_more : (kind : WatchKind) (watches : List Watch) (n m address : ℕ) (old new whole : Bool) → n ≡ m + 1
    → new ≡ (old && has_access kind address watches) → (old && has_all kind watches n address) ≡ whole
    → (new && has_all kind watches m (address + 1)) ≡ whole
all_more kind watches n m address old new whole e here so_far =
    let rest = has_all kind watches m (address + 1) in
    ap (λ (b : Bool). b && rest) here ∙ and_assoc old (has_access kind address watches) rest
    ∙ sym (ap (λ (b : Bool). old && b) (one_more kind watches n m address e)) ∙ so_far

none_left : (b : Bool) → (b && true) ≡ b
none_left true = refl
none_left false = refl

pub all_over : (kind : WatchKind) (watches : List Watch) (n address : ℕ) (all whole : Bool) → n ≡ 0 → (all && has_all kind watches n address) ≡ whole
    → all ≡ whole
unfolding has_all
all_over kind watches zero address all whole e so_far = sym (none_left all) ∙ so_far
all_over kind watches (suc n) address all whole e so_far = absurd (omega (arith, e))
