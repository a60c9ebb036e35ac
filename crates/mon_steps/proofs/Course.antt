-- Going back where nothing is undone.
use Rattle.std.proofs.Common.{◌≡◌, ℕ, ◌-◌, ◌≤◌, suc, Bool, true, false, cond, eqb, nat_lt, List, ◌++◌, length, drop, Result, Ok, Err, refl, ap, ◌∙◌, inl, inr, arith}
use Rattle.std.specs.Prelude.{⊤, OnErr}
use Rattle.std.specs.declared.alloc.AllocError.{AllocError}
use Rattle.std.proofs.lemmas.List.{drop_all, take_all}
use Rattle.model.specs.Session.{Session}
use Rattle.model.specs.Back.{without_last}
use Rattle.mon_runs.specs.Recall.{one_more, recalled}
use Rattle.mon_lines.specs.declared.command.Undoing.{Undoing}
use Rattle.mon_lines.specs.declared.command.Undoing.TheVariants.{Events, Over}
use Rattle.mon_runs.specs.Back.{back_over, gone_over, was_return}
use Rattle.mon_session.specs.Events.{Kept, with_undone}
use Rattle.mon_session.specs.Course.{Course}
use Rattle.mon_runs.specs.declared.stops.Stops.{Stops}
use Rattle.mon_steps.specs.BackLines.{remade, remade_one, undone}
use Rattle.mon_steps.specs.BackLines.{undone_by, undone_by_watches, undone_over, undone_to_stop}
use Rattle.mon_session.specs.Course.{IsEither}

none_undone : (k : Kept) → with_undone 0 k ≡ k
none_undone k =
    let all : length k.made ≤ length k.made - 0 = omega arith in
    let rest : drop (length k.made - 0) k.made ++ k.undone ≡ k.undone = ap (λ l. l ++ k.undone) (drop_all (length k.made - 0) k.made all) in
    (λ i. record k { made = take_all (length k.made - 0) k.made all i; undone = rest i })

-- no way back where nothing is held
back_none : (s : Session) → length s.earlier ≡ 0 → back_over s ≡ (0, s)
unfolding back_over
back_none s held =
    let t = without_last 1 s in
    ap (λ h. cond (eqb h 0) (0, s) (cond (was_return t.current s.current) (one_more (gone_over s.current.regs.s (h - 1) t)) (1, t))) held

none_over : (c : Course) → length c.0.earlier ≡ 0 → undone_over c ≡ c
none_over c held =
    (λ i. let way = back_none c.0 held i in (way.1, with_undone way.0 c.1))
    ∙ (λ i. (c.0, none_undone c.1 i))

pub none_to_stop : (stops : Stops) (c : Course) → length c.0.earlier ≡ 0
    → undone_to_stop stops c ≡ c
unfolding recalled
none_to_stop stops c held =
    ap (λ n. ((recalled stops n c.0).1, with_undone (recalled stops n c.0).0 c.1)) held
    ∙ (λ i. (c.0, none_undone c.1 i))

none_by_choice : (b : Bool) (c d : Course) → d ≡ c → cond b c d ≡ c
none_by_choice true c d h = refl
none_by_choice false c d h = h

pub none_by_watches : (stops : Stops) (c : Course) → length c.0.earlier ≡ 0
    → undone_by_watches stops c ≡ c
none_by_watches stops c held = none_by_choice (nat_lt 256 (length stops.changes.items)) c
    (undone_to_stop stops c) (none_to_stop stops c held)

pub none_held : (undoing : Undoing) (c : Course) → length c.0.earlier ≡ 0
    → undone_by undoing c ≡ c
none_held (Events count) c held = ap (λ k. cond (nat_lt 0 k) (undone count c) c) held
none_held Over c held = none_over c held

-- Events that are made again one by one, where the last may be made or not.
pub partly : (n : ℕ) (a b c : Course) → b ≡ remade n a → IsEither c b (remade_one b)
    → (x : ℕ) × (c ≡ remade x a)
partly n a b c before (inl same) = (n, same ∙ before)
partly n a b c before (inr more) = (suc n, more ∙ ap remade_one before)

pub if_err : (P : Type 0) (r : Result ⊤ AllocError) → P → OnErr r P
if_err P (Ok done) h = tt
if_err P (Err fault) h = h
