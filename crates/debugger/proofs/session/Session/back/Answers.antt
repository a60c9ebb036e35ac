use Rattle.std.proofs.Common.{arith, refl, ◌≡◌, ◌<◌, ◌≤◌, ◌+◌, ◌-◌, ◌%◌, ◌++◌, ◌∷◌, [], ap, length, take, ◌∙◌, sym, subst, Ok, Err, ℕ}
use Rattle.model.specs.declared.session_fault.SessionFault.TheVariants.{NoHistory}
use Rattle.model.specs.Back.{back_of, number_back}
use Rattle.law_sessions.proofs.Backs.{back_of-held, back_of-refused, is_gone_back, rest-without_last, without_last-zero}
use Rattle.debugger.specs.Replay.{held_states}
use Rattle.debugger.proofs.Trails.{length-held_states}
use Rattle.debugger.proofs.session.Session.back.Goals as goal

pub returns-then-count-held-clause-err : goal.returns-then-count-held-clause-err
returns-then-count-held-clause-err c =
    let few : length c.args.self.now.earlier < c.args.count = omega (arith, c.held-held.ensures.held) in
    (back_of-refused c.args.count c.args.self.now few ∙ ap (λ n. Err (NoHistory n)) (sym c.held-held.ensures.held), refl)

pub returns-then-count-gt0-clause-ok : goal.returns-then-count-gt0-clause-ok
returns-then-count-gt0-clause-ok c =
    let t = c.self.inside.trail in
    let s = c.self.inside.machine in
    let k = c.args.count in
    let long : length (held_states t.held t.kept.items t.events.items s) ≡ t.held =
    length-held_states t.held t.kept.items t.events.items s c.self.invariant.0.few in
    let all : length (held_states t.held t.kept.items t.events.items s) ≡ length c.args.self.now.earlier = ap (λ v. length v.earlier) c.self.view_is in
    let few : k ≤ length (held_states t.held t.kept.items t.events.items s) = omega (arith, c.held-held.ensures.held) in
    let fewer = c.go_back-self-inside.ensures.fewer in
    let number : length c.go_back-self-inside.new.course.events.items % 1024 ≡ number_back k (length t.events.items % 1024) = omega arith in
    let n : t.held - k + 1 ≡ length (held_states t.held t.kept.items t.events.items s) - k + 1 = omega arith in
    rw (← c.self.view_is) (back_of-held k _ few ∙ ap Ok (sym
    (is_gone_back k _ _ few (rest-without_last k _ _ c.if-count-gt0.true c.go_back-self-inside.ensures.size refl refl number
    (c.go_back-self-inside.ensures.number ∙ number))
    (c.go_back-self-inside.ensures.states ∙ ap (λ m. take m (held_states t.held t.kept.items t.events.items s ++ s ∷ [])) n))))

pub returns-else-count-gt0-clause-ok : goal.returns-else-count-gt0-clause-ok
returns-else-count-gt0-clause-ok c =
    let none : 0 ≡ c.args.count = omega (arith, c.if-count-gt0.false) in
    let is : length c.self.inside.trail.events.items % 1024 ≡ c.args.self.now.number = ap (λ v. v.number) c.self.view_is in
    let small : c.args.self.now.number < 1024 = omega arith in
    subst (λ (n : ℕ). back_of n c.args.self.now ≡ Ok c.args.self.now) none
    (back_of-held 0 c.args.self.now (omega arith) ∙ ap Ok (without_last-zero c.args.self.now small))
