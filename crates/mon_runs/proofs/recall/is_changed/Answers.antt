use Rattle.std.proofs.Common.{◌≡◌, ◌<◌, ◌≤◌, ℕ, Bool, not, nat_eq, length, get_or, sym, ◌∙◌, arith}
use Rattle.mon_runs.proofs.Found.{none_more, none_all, same_byte}
use Rattle.mon_runs.proofs.recall.is_changed.Goals as goal

pub loop-index-preserved : goal.loop-index-preserved
loop-index-preserved c = λ after h.
    let watched = c.args.watched.now in
    let memory = c.args.session.now.current.bus.memory in
    let index = c.loop-index.index in
    let p : ℕ → Bool = λ a. not (nat_eq (get_or memory a 0) (get_or after.bus.memory a 0)) in
    let within : index < length watched = omega (arith, c.loop-index-test.true) in
    let same : get_or memory (get_or watched index 0) 0 ≡ get_or after.bus.memory (get_or watched index 0) 0 =
    sym c.peek.ensures.value ∙ c.if-peek-bytes.false ∙ h index within in
    none_more p watched index within (c.loop-index.invariant after h)
    (same_byte (get_or memory (get_or watched index 0) 0) (get_or after.bus.memory (get_or watched index 0) 0) same)

pub returns : goal.returns
returns c = λ after h.
    let watched = c.args.watched.now in
    let memory = c.args.session.now.current.bus.memory in
    let p : ℕ → Bool = λ a. not (nat_eq (get_or memory a 0) (get_or after.bus.memory a 0)) in
    let all : length watched ≤ c.loop-index.index = omega (arith, c.loop-index-test.false) in
    sym (none_all p watched c.loop-index.index all (c.loop-index.invariant after h))
