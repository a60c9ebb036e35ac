use Rattle.std.proofs.Common.{◌≡◌, ◌≢◌, ◌≤◌, ◌<◌, nat_eq, length, get_or, sym, ap, ◌∙◌, arith}
use Rattle.std.specs.List.{list_any}
use Rattle.std.proofs.lemmas.List.Folds.{list_any_at}
use Rattle.mon_runs.proofs.Found.{none_more, none_all, same_address, other_address}
use Rattle.mon_runs.proofs.recall.is_at_break.Goals as goal

pub returns-then-pc-break_of : goal.returns-then-pc-break_of
returns-then-pc-break_of c =
    let pc = c.regs-pc.result.pc in
    let breaks = c.args.session.now.breaks in
    let within : c.loop-index.index < length breaks = omega (arith, c.loop-index-test.true) in
    let here : nat_eq pc (get_or breaks c.loop-index.index 0) ≡ nat_eq pc pc = ap (nat_eq pc) (sym c.break_of.ensures ∙ sym c.if-pc-break_of.true) in
    sym (ap (λ a. list_any (nat_eq a) breaks) (sym (ap (λ r. r.pc) c.regs-pc.ensures))
    ∙ list_any_at (nat_eq pc) breaks c.loop-index.index 0 within (here ∙ same_address pc pc (λ _. pc)))

pub loop-index-preserved : goal.loop-index-preserved
loop-index-preserved c =
    let pc = c.regs-pc.result.pc in
    let breaks = c.args.session.now.breaks in
    let within : c.loop-index.index < length breaks = omega (arith, c.loop-index-test.true) in
    none_more (nat_eq pc) breaks c.loop-index.index within c.loop-index.invariant
    (ap (nat_eq pc) (sym c.break_of.ensures) ∙ other_address pc c.break_of.result c.if-pc-break_of.false)

pub returns : goal.returns
returns c =
    let pc = c.regs-pc.result.pc in
    let breaks = c.args.session.now.breaks in
    let all : length breaks ≤ c.loop-index.index = omega (arith, c.loop-index-test.false) in
    sym (ap (λ a. list_any (nat_eq a) breaks) (sym (ap (λ r. r.pc) c.regs-pc.ensures))
    ∙ none_all (nat_eq pc) breaks c.loop-index.index all c.loop-index.invariant)
