use Rattle.std.proofs.Common.{rules, ◌≡◌, ◌++◌, OnOk, ap, sym}
use Rattle.std.specs.Prelude.{slice_get}
use Rattle.std.proofs.lemmas.Result.{IfOk-equal}
use Rattle.page_writer.specs.Facts.{number_fact}
use Rattle.source_map.specs.Names.{named_numbers}
use Rattle.source_map.proofs.Steps.{none_taken, one_taken, zip_at, zip_no_other, zip_none}
use Rattle.page_writer.proofs.names.push_name_at.Goals as goal

pub returns-in-Some-Some : goal.returns-in-Some-Some
returns-in-Some-Some c =
    let a = c.args.assembly.now in
    let fact = number_fact c.args.is_other c.args.written.now in
    let o = c.in-Some-Some in
    let added : OnOk c.push_number.result (c.push_number.new.text.items ≡ c.args.text.now.items ++ fact ((o.name.now, o.number), o.is_label)) = search rules in
    IfOk-equal c.push_number.result _ _ _ added (ap (λ ns. c.args.text.now.items ++ ns)
    (one_taken fact (slice_get (named_numbers a) c.args.index) ((o.name.now, o.number), o.is_label)
    (zip_at a.names a.labels c.args.index (o.name.now, o.number) o.is_label (sym o.ensures) (sym o.ensures'.told))))

pub returns-in_default : goal.returns-in_default
returns-in_default c =
    let a = c.args.assembly.now in
    none_taken (number_fact c.args.is_other c.args.written.now) (slice_get (named_numbers a) c.args.index) c.args.text.now.items
    (zip_no_other a.names a.labels c.args.index (sym c.in_default.ensures'.told))

pub returns-in_default-2 : goal.returns-in_default-2
returns-in_default-2 c =
    let a = c.args.assembly.now in
    none_taken (number_fact c.args.is_other c.args.written.now) (slice_get (named_numbers a) c.args.index) c.args.text.now.items
    (zip_none a.names a.labels c.args.index (sym c.in_default.ensures))
