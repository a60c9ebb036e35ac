use Rattle.std.proofs.Common.{ℕ, List, Option, Result, Ok, Err, IfErr, IfOk, ◌≡◌, ◌⊎◌, subst, sym}
use Rattle.image_files.proofs.Images.{Memory, fault_in, found_in, only_in, refused_in}
use Rattle.image_files.specs.Bytes.{IsImage, IsNoImage}
use Rattle.image_files.specs.declared.refusal.ImageRefusal.{ImageRefusal}
use Rattle.image_files.proofs.bytes.image_in.Goals as goal

abbrev Gives : Type 0
Gives = Result (List (Option ℕ)) ImageRefusal

pub returns-clause-found : goal.returns-clause-found
returns-clause-found c =
    subst (λ (r : Gives). IfOk r (IsImage c.args.said c.args.bytes.now)) (sym c.as_refusal.ensures)
    (found_in c.args.said c.args.bytes.now c.args.form c.read_image.result c.requires c.read_image.ensures.found)

pub returns-clause-only : goal.returns-clause-only
returns-clause-only c = λ cells is.
    subst (λ (r : Gives). (r ≡ Ok cells) ⊎ (r ≡ Err Memory)) (sym c.as_refusal.ensures)
    (only_in c.args.said c.args.bytes.now c.args.form c.read_image.result c.requires c.read_image.ensures.only cells is)

pub returns-clause-fault : goal.returns-clause-fault
returns-clause-fault c =
    subst (λ (r : Gives). IfErr r (λ why. (why ≡ Memory) ⊎ IsNoImage c.args.said c.args.bytes.now why)) (sym c.as_refusal.ensures)
    (fault_in c.args.said c.args.bytes.now c.args.form c.read_image.result c.requires c.read_image.ensures.fault)

pub returns-clause-refused : goal.returns-clause-refused
returns-clause-refused c = λ why is.
    subst (λ (r : Gives). (r ≡ Err why) ⊎ (r ≡ Err Memory)) (sym c.as_refusal.ensures)
    (refused_in c.args.said c.args.bytes.now c.args.form c.read_image.result c.requires c.read_image.ensures.refused why is)
