use Rattle.std.proofs.Common.{subst, sym, ap, ◌∙◌, arith, List, ℕ, Option}
use Rattle.image_reader.specs.Images.{prg_image}
use Rattle.image_writer.specs.ImageTexts.{prg_bytes}
use Rattle.image_writer.specs.Window.{IsReadPart}
use Rattle.image_writer.proofs.RawBytes.{prg_read}
use Rattle.image_writer.proofs.raw.write_prg.Goals as goal

pub returns-clause-bytes : goal.returns-clause-bytes
returns-clause-bytes c =
    c.in_ok-out.ensures ∙ ap (λ (cs : List (Option ℕ)). prg_bytes c.args.low c.args.high c.args.fill cs) c.cells.ensures.same

pub returns-clause-read : goal.returns-clause-read
returns-clause-read c =
    let bytes = c.in_ok-out.ensures ∙ ap (λ (cs : List (Option ℕ)). prg_bytes c.args.low c.args.high c.args.fill cs) c.cells.ensures.same in
    subst (λ (b : List ℕ). IsReadPart c.args.low c.args.high c.args.fill c.args.image.now (prg_image b)) (sym bytes)
    (prg_read c.args.low c.args.high c.args.fill c.args.image.now c.requires (omega arith) c.cells.ensures.image.size)
