use Rattle.std.proofs.Common.{ℕ, Some, Vec, Global}
use Rattle.mon_files.proofs.SavedTexts.{saved_as}
use Rattle.mon_files.proofs.saving.text_between.Goals as goal

pub write_form-requires : goal.write_form-requires
write_form-requires c = c.requires.1

pub returns : goal.returns
returns c = saved_as c.write_form.result (λ (v : Vec ℕ Global). v.items) c.args.form (Some (c.args.low, c.args.high)) c.args.image.now c.requires
    c.write_form.ensures
