use Rattle.std.proofs.Common.{List, ℕ, subst, sym, ◌∙◌}
use Rattle.name_uses.proofs.Uses.{named_as, none_taken, renamed_as, some_taken}
use Rattle.model.specs.Source.{Denotes}
use Rattle.name_uses.specs.Renaming.{IsChanged}
use Rattle.name_uses.proofs.change.rename.Goals as goal

pub returns-then-not-is_empty-clause-refused : goal.returns-then-not-is_empty-clause-refused
returns-then-not-is_empty-clause-refused c = λ none.
    some_taken c.as_slice.result.now c.in_ok-picked.field-0.items _ c.if-not-is_empty.ensures c.as_slice.ensures.value
    (named_as c.args.new.now c.args.source.now _ _ _ _ c.in_ok-picked.field-0.items c.profile-profile.ensures c.in_ok-all.ensures
    c.deref.ensures.value c.in_ok-picked.ensures) none

pub returns-in-Ok-true-clause-free : goal.returns-in-Ok-true-clause-free
returns-in-Ok-true-clause-free c =
    none_taken c.as_slice.result.now c.in_ok-picked.field-0.items _ c.if-not-is_empty.ensures c.as_slice.ensures.value
    (named_as c.args.new.now c.args.source.now _ _ _ _ c.in_ok-picked.field-0.items c.profile-profile.ensures c.in_ok-all.ensures
    c.deref.ensures.value c.in_ok-picked.ensures)

pub returns-in-Ok-true-clause-uses : goal.returns-in-Ok-true-clause-uses
returns-in-Ok-true-clause-uses c = named_as c.args.old.now c.args.source.now _ _ _ _ c.in_ok-uses.uses.items c.profile-profile.ensures
    c.in_ok-all.ensures c.deref-2.ensures.value c.in_ok-uses.ensures

pub returns-in-Ok-true-clause-text : goal.returns-in-Ok-true-clause-text
returns-in-Ok-true-clause-text c =
    renamed_as c.args.source.now c.args.old.now c.args.new.now _ c.in_ok-uses.uses.items _ c.in_ok-text.text.items
    (named_as c.args.old.now c.args.source.now _ _ _ _ c.in_ok-uses.uses.items c.profile-profile.ensures c.in_ok-all.ensures c.deref-2.ensures.value
    c.in_ok-uses.ensures) c.deref-3.ensures.value c.in_ok-text.ensures

pub returns-in-Ok-false-clause-refused : goal.returns-in-Ok-false-clause-refused
returns-in-Ok-false-clause-refused c =
    let text = renamed_as c.args.source.now c.args.old.now c.args.new.now _ c.in_ok-uses.uses.items _ c.in_ok-text.text.items
    (named_as c.args.old.now c.args.source.now _ _ _ _ c.in_ok-uses.uses.items c.profile-profile.ensures c.in_ok-all.ensures c.deref-2.ensures.value
    c.in_ok-uses.ensures) c.deref-3.ensures.value c.in_ok-text.ensures in
    subst (λ (t : List ℕ). IsChanged c.args.map.now c.args.source.now t) (c.deref-4.ensures.value ∙ text)
    (c.in-Ok-false.ensures.changed c.in-Ok-false.field-0-test)

pub returns-in-Ok-true-clause-image : goal.returns-in-Ok-true-clause-image
returns-in-Ok-true-clause-image c = λ image d. subst (λ (t : List ℕ). Denotes c.args.map.now t image) c.deref-4.ensures.value
    (c.in-Ok-true.ensures.kept c.in-Ok-true.field-0-test image d)

pub returns-in-Ok-true-clause-named : goal.returns-in-Ok-true-clause-named
returns-in-Ok-true-clause-named c = rw (sym c.profile-profile.ensures) (sym c.in_ok-is_name.ensures ∙ c.if-not-branch.false)
