use Rattle.std.proofs.Common.{rules, ◌≡◌, ◌++◌, OnOk, ap, sym, ◌∙◌, map}
use Rattle.std.specs.Prelude.{slice_get}
use Rattle.std.proofs.lemmas.Result.{IfOk-equal}
use Rattle.source_map.specs.Names.{named_numbers}
use Rattle.trace_rows.specs.Sites.{index_at, labelled, name_if_free}
use Rattle.trace_rows.proofs.Places.{name_left, name_none, name_taken, none_more, zip_no_other, zip_none}
use Rattle.trace_rows.proofs.sites.push_name_at.Goals as goal

pub returns-then-is_wanted : goal.returns-then-is_wanted
returns-then-is_wanted c =
    let a = c.args.assembly.now in
    let o = c.in-Some-Some in
    let place = index_at c.args.table.now.items in
    let pushed : OnOk c.push_name.result (map labelled c.push_name.new.names.items ≡ map labelled c.args.names.now.items
    ++ name_if_free a.image place o.text.now o.number) = search rules in
    IfOk-equal c.push_name.result _ _ _ pushed (ap (λ ls. map labelled c.args.names.now.items ++ ls)
    (sym (name_taken a.image place c.args.labels a.names a.labels c.args.index o.text.now o.number o.is_label (sym o.ensures) (sym o.ensures'.told)
    (sym c.is_wanted.ensures ∙ c.if-is_wanted.true))))

pub returns-else-is_wanted : goal.returns-else-is_wanted
returns-else-is_wanted c =
    let a = c.args.assembly.now in
    let o = c.in-Some-Some in
    none_more (map labelled c.args.names.now.items) _
    (name_left a.image (index_at c.args.table.now.items) c.args.labels a.names a.labels c.args.index o.text.now o.number o.is_label (sym o.ensures)
    (sym o.ensures'.told) (sym c.is_wanted.ensures ∙ c.if-is_wanted.false))

pub returns-in_default : goal.returns-in_default
returns-in_default c =
    let a = c.args.assembly.now in
    none_more (map labelled c.args.names.now.items) _
    (name_none a.image (index_at c.args.table.now.items) c.args.labels (slice_get (named_numbers a) c.args.index)
    (zip_no_other a.names a.labels c.args.index (sym c.in_default.ensures'.told)))

pub returns-in_default-2 : goal.returns-in_default-2
returns-in_default-2 c =
    let a = c.args.assembly.now in
    none_more (map labelled c.args.names.now.items) _
    (name_none a.image (index_at c.args.table.now.items) c.args.labels (slice_get (named_numbers a) c.args.index)
    (zip_none a.names a.labels c.args.index (sym c.in_default.ensures)))
