use Rattle.std.proofs.Common.{ℕ, None, Vec, Global}
use Rattle.mon_files.proofs.SavedTexts.{saved_as}
use Rattle.mon_files.proofs.saving.text_of_none.Goals as goal

pub returns : goal.returns
returns c = saved_as c.write_form.result (λ (v : Vec ℕ Global). v.items) c.args.form None c.args.image.now c.requires c.write_form.ensures
