use Rattle.std.proofs.Common.{◌∙◌}
use Rattle.law_opcodes.proofs.Encoding.{encoded_of_row}
use Rattle.optable.proofs.Encoding.{code_is, found, none}
use Rattle.optable.proofs.codes.encode_in.Goals as goal

pub returns : goal.returns
returns c =
    let p = c.args.profile in
    let m = c.args.mnemonic in
    let d = c.args.mode in
    let is = c.within.ensures ∙ code_is p m d in
    record {
      code = is;
      found = found p m d c.within.result is;
      none = none p m d c.within.result is;
      only = λ opcode below row. is ∙ encoded_of_row p m d opcode below row;
    }
