use Rattle.std.proofs.Common.{◌≡◌}
use Rattle.word_dis.specs.Word.{names_map}
use Rattle.word_dis.proofs.NamesRefused.{names_refused}
use Rattle.word_dis.proofs.Parts.{are_named}
use Rattle.word_dis.proofs.written.defined.Goals as goal

pub returns-in_err-names-clause-refused : goal.returns-in_err-names-clause-refused
returns-in_err-names-clause-refused c =
    let same : c.in_ok-map.map ≡ names_map c.args.profile = rw c.based.ensures at c.in_ok-map.ensures.map in
    names_refused c.args.profile c.args.source.now c.in_ok-map.map c.in_err-names.field-0.0 c.from_residual-in_err-names.result same
    c.in_err-names.ensures.refused c.from_residual-in_err-names.ensures.1

pub returns-clause-named : goal.returns-clause-named
returns-clause-named c =
    let same : c.in_ok-map.map ≡ names_map c.args.profile = rw c.based.ensures at c.in_ok-map.ensures.map in
    are_named c.args.profile c.in_ok-map.map c.args.source.now c.in_ok-names.names same c.in_ok-names.ensures.assembled c.in_ok-names.ensures.kept
