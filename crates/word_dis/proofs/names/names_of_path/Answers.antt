use Rattle.std.proofs.Common.{ap}
use Rattle.word_dis.specs.declared.names.Names.{Names as Held}
use Rattle.word_dis.proofs.Parts.{of_file}
use Rattle.names_files.specs.NamesFile.{Names}
use Rattle.word_dis.proofs.names.names_of_path.Goals as goal

pub returns-clause-given : goal.returns-clause-given
returns-clause-given g c =
    of_file (λ (n : Held). n.assembly) (λ (n : Held). n.left_out.items) c.args.profile c.args.labels.text.now c.as_slice.result.now _ _
    c.names_in.result (ap (λ (n : Names). n.source) c.in_ok-names.ensures.names) (ap (λ (n : Names). n.left_out) c.in_ok-names.ensures.names)
    c.names_in.ensures.given c.names_in.ensures.left_out
