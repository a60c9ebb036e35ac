use Rattle.std.proofs.Common.{◌≡◌, ◌∙◌, ◌++◌, Bool, true, false, List, [], append-nil, ap, map, refl, subst, sym}
use Rattle.std.proofs.lemmas.Result.{IfOk-weaker}
use Rattle.std.specs.Prelude.{◌&&◌, is_some, not, option_map}
use Rattle.dap_messages.specs.Messages.{Said, said_of}
use Rattle.dap_session.specs.Logs.{SaysIf, is_log}
use Rattle.dap_session.specs.Passes.{but_last, is_back, says}
use Rattle.dap_session.proofs.passing.with_log.Goals as goal

-- nothing more is said
none : (b : Bool) (said front : List Said) → b ≡ false → said ≡ front → (log : List Said) × SaysIf b log × (said ≡ front ++ log)
none b said front quiet is = ([], subst (λ (x : Bool). SaysIf x []) (sym quiet) refl, is ∙ sym (append-nil front))

-- both have to hold
on_the_way_back : (a b : Bool) → a ≡ true → (not a && b) ≡ false
on_the_way_back a b e = ap (λ (x : Bool). not x && b) e

not_there : (a b : Bool) → b ≡ false → (a && b) ≡ false
not_there true b e = e
not_there false b e = refl

both : (a b : Bool) → a ≡ false → b ≡ true → (not a && b) ≡ true
both a b is_a is_b = ap (λ (x : Bool). not x && b) is_a ∙ is_b

pub returns-then-is_back : goal.returns-then-is_back
returns-then-is_back c =
    none (says c.args.further c.args.client.now) (map said_of c.but_last-before.result.items) (but_last (map said_of c.args.messages.items))
    (on_the_way_back (is_back c.args.further) (is_log c.args.client.now) (sym c.is_back.ensures ∙ c.if-is_back.true)) c.but_last-before.ensures

pub returns-in-Some : goal.returns-in-Some
returns-in-Some c =
    let log = sym (ap is_some c.log_here.ensures) ∙ ap (λ o. is_some (option_map (λ t. t.now) o)) c.in-Some.is in
    let loud = both (is_back c.args.further) (is_log c.args.client.now) (sym c.is_back.ensures ∙ c.if-is_back.false) log in
    IfOk-weaker c.with_line.result _ _
    (λ ms line. (
      line.0,
      subst (λ (b : Bool). SaysIf b line.0) (sym loud) line.1,
      subst
          (λ (front : List Said). map said_of ms.items ≡ front ++ line.0) c.but_last-before.ensures line.2,
    ))
    c.with_line.ensures

pub returns-in-None : goal.returns-in-None
returns-in-None c =
    let log = sym (ap is_some c.log_here.ensures) ∙ ap (λ o. is_some (option_map (λ t. t.now) o)) c.in-None.is in
    none (says c.args.further c.args.client.now) (map said_of c.but_last-before.result.items) (but_last (map said_of c.args.messages.items))
    (not_there (not (is_back c.args.further)) (is_log c.args.client.now) log) c.but_last-before.ensures
