use Rattle.std.proofs.Common.{subst, sym, List, ℕ, Ok, ◌≡◌}
use Rattle.image_reader.specs.Texts.{text_image}
use Rattle.image_writer.proofs.Going.{whole_text}
use Rattle.image_writer.proofs.Written.{written_denotes}
use Rattle.image_writer.proofs.text.write_text.Goals as goal

pub returns-clause-text : goal.returns-clause-text
returns-clause-text c =
    whole_text c.args.form c.args.image.now _ _ c.push_front.new.out.items c.push_rows.new.out.items c.push_end.new.out.items
    c.new-out.ensures.items c.in_ok-push_front.ensures c.cells.ensures.same c.in_ok-push_rows.ensures c.in_ok-push_end.ensures

pub returns-clause-denotes : goal.returns-clause-denotes
returns-clause-denotes c =
    let text =
    whole_text c.args.form c.args.image.now _ _ c.push_front.new.out.items c.push_rows.new.out.items c.push_end.new.out.items
    c.new-out.ensures.items c.in_ok-push_front.ensures c.cells.ensures.same c.in_ok-push_rows.ensures c.in_ok-push_end.ensures in
    subst (λ (t : List ℕ). text_image c.args.form t ≡ Ok c.args.image.now) (sym text) (written_denotes c.args.form c.args.image.now c.cells.ensures.image)
