use Rattle.std.proofs.Common.{◌≡◌, ◌∙◌, ℕ, List, Option, ap, sym, subst}
use Rattle.source_forms.specs.Labels.{flagged_source, flags_of}
use Rattle.named_source.specs.NamedText.{IsSourceOf, named_source, plain_source}
use Rattle.named_source.specs.Names.{flagged_by}
use Rattle.named_source.specs.Renaming.{renamed}
use Rattle.named_source.proofs.Chosen.{first_is, named_is, plain_is, second_is}
use Rattle.named_source.proofs.text.named_text.Goals as goal

pub returns-then-branch-clause-text : goal.returns-then-branch-clause-text
returns-then-branch-clause-text c =
    let profile = c.args.profile in
    let image = c.args.image.now in
    let marks = c.args.marks.now in
    let names = c.args.names.now.names in
    let table = c.in_ok-table.table.items in
    let before = c.in_ok-flags.flags.items in
    let flags = c.flag_named.new.flags.items in
    let plain = c.in_ok-plain.plain.items in
    let named = c.in_ok-named.named.items in
    let own : before ≡ flags_of profile image marks = c.in_ok-flags.ensures.exact
    ∙ ap (λ (cells : List (Option ℕ)). flags_of profile cells marks) c.cells.ensures.same in
    let set : flags ≡ flagged_by table before = c.flag_named.ensures ∙ ap (λ (t : List ℕ). flagged_by t before) c.as_slice.ensures.value in
    let written : plain ≡ flagged_source profile image marks flags =
    c.in_ok-plain.ensures.text ∙ ap (flagged_source profile image marks) c.as_slice-2.ensures.value in
    let plain_same : plain ≡ plain_source profile image marks names =
    plain_is profile image marks names table before flags plain c.in_ok-table.ensures c.in_ok-flags.ensures.len own set written in
    let named_same : named ≡ named_source profile image marks names =
    named_is profile image marks names plain named plain_same (c.in_ok-named.ensures ∙ ap (renamed names image) c.as_slice-4.ensures.value) in
    let right : IsSourceOf profile image named = subst (IsSourceOf profile image) c.as_slice-5.ensures.value
    (c.in_ok-is_right.ensures.right c.if-branch.true) in
    first_is profile image (named_source profile image marks names) (plain_source profile image marks names) named named_same right

pub returns-clause-text : goal.returns-clause-text
returns-clause-text c =
    let profile = c.args.profile in
    let image = c.args.image.now in
    let marks = c.args.marks.now in
    let names = c.args.names.now.names in
    let table = c.in_ok-table.table.items in
    let before = c.in_ok-flags.flags.items in
    let flags = c.flag_named.new.flags.items in
    let plain = c.in_ok-plain.plain.items in
    let named = c.in_ok-named.named.items in
    let own : before ≡ flags_of profile image marks = c.in_ok-flags.ensures.exact
    ∙ ap (λ (cells : List (Option ℕ)). flags_of profile cells marks) c.cells.ensures.same in
    let set : flags ≡ flagged_by table before = c.flag_named.ensures ∙ ap (λ (t : List ℕ). flagged_by t before) c.as_slice.ensures.value in
    let written : plain ≡ flagged_source profile image marks flags =
    c.in_ok-plain.ensures.text ∙ ap (flagged_source profile image marks) c.as_slice-2.ensures.value in
    let plain_same : plain ≡ plain_source profile image marks names =
    plain_is profile image marks names table before flags plain c.in_ok-table.ensures c.in_ok-flags.ensures.len own set written in
    let named_same : named ≡ named_source profile image marks names =
    named_is profile image marks names plain named plain_same (c.in_ok-named.ensures ∙ ap (renamed names image) c.as_slice-4.ensures.value) in
    second_is profile image (named_source profile image marks names) (plain_source profile image marks names) named plain named_same
    (λ s. c.in_ok-is_right.ensures.wrong c.if-branch.false (subst (IsSourceOf profile image) (sym c.as_slice-5.ensures.value) s)) plain_same
