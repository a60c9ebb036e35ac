use Rattle.std.proofs.Common.{◌≡◌, rules, sym, subst, ℤ}
use Rattle.std.proofs.lemmas.Int.{to_z-of_z}
use Rattle.std.specs.Int.{w32}
use Rattle.std.specs.Prelude.{IfOk}
use mir.Val.{SFits}
use Rattle.assembler.specs.Assembly.{with_other}
use Rattle.assembler.proofs.MoreNames.{none_named, result_named}
use Rattle.assembler.proofs.assembly.Assembly.with_symbol.Goals as goal

pub returns-in-Some : goal.returns-in-Some
returns-in-Some c =
    let o = c.in-Some in
    let fits : SFits w32 o.number = search rules in
    let made = subst (λ (z : ℤ). IfOk c.with_name.result (λ a. a ≡ with_other (o.name.now, z) c.args.self)) (to_z-of_z w32 o.number fits) c.with_name.ensures in
    result_named c.with_name.result c.args.names.now c.args.index (o.name.now, o.number) c.args.self (sym o.ensures) made

pub returns-in-None : goal.returns-in-None
returns-in-None c = none_named c.args.names.now c.args.index c.args.self (sym c.in-None.ensures)
