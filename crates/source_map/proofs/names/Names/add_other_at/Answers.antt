use Rattle.std.proofs.Common.{rules, ◌≡◌, ◌++◌, OnOk, ap, sym}
use Rattle.std.specs.Prelude.{slice_get}
use Rattle.std.proofs.lemmas.Result.{IfOk-equal}
use Rattle.source_map.specs.Names.{other_name}
use Rattle.source_map.proofs.Steps.{none_taken, one_taken}
use Rattle.source_map.proofs.names.Names.add_other_at.Goals as goal

pub returns-in-Some-clause-ok : goal.returns-in-Some-clause-ok
returns-in-Some-clause-ok c =
    let o = c.in-Some in
    let added : OnOk c.add_other.result (c.add_other.new.self ≡ c.args.self.now ++ other_name o.text.now o.number) = search rules in
    IfOk-equal c.add_other.result _ _ _ added (ap (λ ns. c.args.self.now ++ ns)
    (one_taken (λ d. other_name d.0 d.1) (slice_get c.args.names.now c.args.index) (o.text.now, o.number) (sym o.ensures)))

pub returns-in-None-clause-ok : goal.returns-in-None-clause-ok
returns-in-None-clause-ok c =
    none_taken (λ d. other_name d.0 d.1) (slice_get c.args.names.now c.args.index) c.args.self.now (sym c.in-None.ensures)
