use Rattle.std.proofs.Common.{rules, ◌≡◌, ◌++◌, OnOk, ap}
use Rattle.std.specs.Prelude.{slice_get}
use Rattle.std.proofs.lemmas.Result.{IfOk-equal}
use Rattle.std.proofs.Common.{sym}
use Rattle.source_map.specs.Names.{name_of, named_numbers}
use Rattle.source_map.proofs.Steps.{none_taken, one_taken, zip_at, zip_no_other, zip_none}
use Rattle.source_map.proofs.names.Names.add_at.Goals as goal

pub returns-in-Some-Some-clause-ok : goal.returns-in-Some-Some-clause-ok
returns-in-Some-Some-clause-ok c =
    let a = c.args.assembly.now in
    let o = c.in-Some-Some in
    let added : OnOk c.add.result (c.add.new.self ≡ c.args.self.now ++ name_of a.image o.text.now o.number o.is_label) = search rules in
    IfOk-equal c.add.result _ _ _ added (ap (λ ns. c.args.self.now ++ ns)
    (one_taken (λ d. name_of a.image d.0.0 d.0.1 d.1) (slice_get (named_numbers a) c.args.index) ((o.text.now, o.number), o.is_label)
    (zip_at a.names a.labels c.args.index (o.text.now, o.number) o.is_label (sym o.ensures) (sym o.ensures'.told))))

pub returns-in_default-clause-ok : goal.returns-in_default-clause-ok
returns-in_default-clause-ok c =
    let a = c.args.assembly.now in
    none_taken (λ d. name_of a.image d.0.0 d.0.1 d.1) (slice_get (named_numbers a) c.args.index) c.args.self.now
    (zip_no_other a.names a.labels c.args.index (sym c.in_default.ensures'.told))

pub returns-in_default-2-clause-ok : goal.returns-in_default-2-clause-ok
returns-in_default-2-clause-ok c =
    let a = c.args.assembly.now in
    none_taken (λ d. name_of a.image d.0.0 d.0.1 d.1) (slice_get (named_numbers a) c.args.index) c.args.self.now
    (zip_none a.names a.labels c.args.index (sym c.in_default.ensures))
