use Rattle.std.proofs.Common.{◌∙◌, refl}
use Rattle.program.proofs.Ends.{ends_dis, ends_write, listed_of, none_listed}
use Rattle.program.proofs.disassembling.dis.Goals as goal

pub returns-in_err-text-clause-refused : goal.returns-in_err-text-clause-refused
returns-in_err-text-clause-refused g c =
    ends_dis c.from_residual-in_err-text.result _ c.in_err-text.field-0.0 c.from_residual-in_err-text.ensures.1 c.in_err-text.ensures.refused

pub returns-in_err-text-clause-listed : goal.returns-in_err-text-clause-listed
returns-in_err-text-clause-listed g c =
    none_listed c.from_residual-in_err-text.result _ _ _ _ _ _ c.in_err-text.field-0.0 c.from_residual-in_err-text.ensures.1 refl

pub returns-clause-listed : goal.returns-clause-listed
returns-clause-listed g c =
    listed_of c.write_text.result c.args.words.now.profile c.args.words.now.first c.args.words.now.last _ _ _ c.in_ok-text.ensures.denoted.0
    c.as_slice-rows.result.now (c.as_slice-rows.ensures.value ∙ c.in_ok-text.ensures.denoted.2) c.write_text.ensures.writes c.write_text.ensures.only

pub returns-clause-refused : goal.returns-clause-refused
returns-clause-refused g c = ends_write c.write_text.result c.write_text.ensures.only
