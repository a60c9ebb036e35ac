use Rattle.std.proofs.Common.{◌≡◌, ◌<◌, ◌-◌, ◌∙◌, ◌++◌, ◌∷◌, [], ap, arith, length, sym, None}
use Rattle.std.specs.Prelude.{slice_get}
use Rattle.circular_buffer.proofs.Places.{slice_get-some}
use Rattle.debugger.proofs.Noting.{kept_all}
use Rattle.debugger.proofs.Stamps.{tells_mark}
use Rattle.debugger.proofs.trail.save_checkpoint.Goals as goal

pub returns-in-Some-clause-pages : goal.returns-in-Some-clause-pages
returns-in-Some-clause-pages c =
    let old = c.args.trail.now in
    let p = c.args.pages.now in
    let room : length old.kept.items < old.kept.capacity = c.requires.room (omega (arith, c.len.ensures.len, c.if-len-ne0.false)) in
    tells_mark p.now c.saturating_add-pages.result p.spare p.stamps old.kept.items old.spare.items _ _ c.args.machine.now
    (omega (arith, c.saturating_add-pages.ensures))
    (ap (λ b. b.items) c.push_back.ensures.items ∙ kept_all old.kept.capacity old.kept.items c.save_pages.new.into room
    ∙ (λ i. old.kept.items ++ c.save_pages.ensures i ∷ [])) c.requires.pages

pub returns-in_default-clause-one : goal.returns-in_default-clause-one
returns-in_default-clause-one c = λ due.
    let spare = c.args.trail.now.spare.items in
    let some : 0 < length spare = c.requires.spare due in
    let got = slice_get-some spare (length spare - 1) (omega (arith, some)) in
    let none : slice_get spare (length spare - 1) ≡ None = sym c.pop_back.ensures.value ∙ c.in_default.is in
    cc

pub returns-in_default-clause-pages : goal.returns-in_default-clause-pages
returns-in_default-clause-pages c =
    let spare = c.args.trail.now.spare.items in
    let some : 0 < length spare = c.requires.spare (omega (arith, c.len.ensures.len, c.if-len-ne0.false)) in
    let got = slice_get-some spare (length spare - 1) (omega (arith, some)) in
    let none : slice_get spare (length spare - 1) ≡ None = sym c.pop_back.ensures.value ∙ c.in_default.is in
    cc
