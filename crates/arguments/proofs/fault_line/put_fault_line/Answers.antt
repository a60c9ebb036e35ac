use Rattle.std.proofs.Common.{◌∙◌, ◌++◌, ◌∷◌, [], codes, append_assoc, sym, subst}
use Rattle.model.specs.Writers.{AppendsFront}
use Rattle.arguments.specs.FaultLines.{name_part, place_part}
use Rattle.arguments.proofs.fault_line.put_fault_line.Goals as goal

pub returns : goal.returns
returns g c =
    let place = c.as_slice.ensures.value ∙ c.place_text.ensures in
    let name = c.as_slice-2.ensures.value ∙ c.name_text.ensures in
    let written = rw (place, name) at c.put_three.ensures in
    let whole = append_assoc (codes "mos65: ") (place_part c.args.refusal) (name_part c.args.refusal ++ 10 ∷ []) in
    let ends = append_assoc (codes "mos65: " ++ place_part c.args.refusal) (name_part c.args.refusal) (10 ∷ []) in
    subst (λ line. AppendsFront (g.E.Write.contents c.args.errors.now) (g.E.Write.contents c.put_three.new.errors) line) (sym whole ∙ sym ends) written
