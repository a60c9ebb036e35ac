use Rattle.std.proofs.Common.{◌∙◌, ◌∷◌, [], ℕ, List, Option, ap, refl, subst, sym}
use Rattle.dap_messages.specs.SeenAnswers.{SeenItem, goto_target}
use Rattle.dap_views.specs.Targets.{targets_of}
use Rattle.dap_views.specs.Wanted.{row_in}
use Rattle.dap_messages.specs.ItemLists.{HasItems}
use Rattle.dap_views.proofs.targets.own_targets.Goals as goal

pub returns-in-Some : goal.returns-in-Some
returns-in-Some c =
    let row = c.row_in.ensures ∙ ap (λ (line : ℕ). row_in c.args.places.now.lines c.args.file line) c.own_line.ensures in
    let at : Option (ℕ × ℕ) → List SeenItem = targets_of c.args.counting in
    let has = c.with.ensures _ _ c.new.ensures refl in
    subst (λ (ds : List SeenItem). HasItems ds c.with.result) (ap (λ n. goto_target c.in-Some.address n ∷ []) c.shown_line-line.ensures
    ∙ sym (ap at c.in-Some.is) ∙ ap at row) has

pub returns-in-None : goal.returns-in-None
returns-in-None c =
    let row = c.row_in.ensures ∙ ap (λ (line : ℕ). row_in c.args.places.now.lines c.args.file line) c.own_line.ensures in
    let at : Option (ℕ × ℕ) → List SeenItem = targets_of c.args.counting in
    subst (λ (ds : List SeenItem). HasItems ds c.new-in-None.result) (sym (ap at c.in-None.is) ∙ ap at row) c.new-in-None.ensures
