use Rattle.assembler.proofs.Answering.{assembled_from, denoted_from, only_from, refused_from, faulty_from, places_from, labels_from, lines_from, names_from, listed_from}
use Rattle.assembler.proofs.assembly.assemble.Goals as goal

pub returns-clause-denoted : goal.returns-clause-denoted
returns-clause-denoted c = denoted_from c.judging_is_right.ensures.meant c.args.map.now c.args.source.now c.assemble_lines.result c.assemble_lines.ensures.exact

pub returns-clause-only : goal.returns-clause-only
returns-clause-only c = only_from c.judging_is_right.ensures.denoted c.args.map.now c.args.source.now c.assemble_lines.result c.assemble_lines.ensures.exact

pub returns-clause-refused : goal.returns-clause-refused
returns-clause-refused c = refused_from c.judging_is_right.ensures.meant c.args.map.now c.args.source.now c.assemble_lines.result c.assemble_lines.ensures.exact

pub returns-clause-faulty : goal.returns-clause-faulty
returns-clause-faulty c = faulty_from c.judging_is_right.ensures.fault c.args.map.now c.args.source.now c.assemble_lines.result c.assemble_lines.ensures.exact

pub returns-clause-places : goal.returns-clause-places
returns-clause-places c = places_from c.judging_is_right.ensures.meant c.one_assignment.ensures c.args.map.now c.args.source.now
    c.assemble_lines.result c.assemble_lines.ensures.exact

pub returns-clause-names : goal.returns-clause-names
returns-clause-names c = names_from c.judging_is_right.ensures.meant c.one_assignment.ensures c.args.map.now c.args.source.now c.assemble_lines.result
    c.assemble_lines.ensures.exact

pub returns-clause-listed : goal.returns-clause-listed
returns-clause-listed c = listed_from c.judging_is_right.ensures.meant c.one_assignment.ensures c.args.map.now c.args.source.now
    c.assemble_lines.result c.assemble_lines.ensures.exact c.assemble_lines.ensures.kept

pub returns-clause-assembled : goal.returns-clause-assembled
returns-clause-assembled c = assembled_from c.judging_is_right.ensures.meant c.one_assignment.ensures c.args.map.now c.args.source.now
    c.assemble_lines.result c.assemble_lines.ensures.exact c.assemble_lines.ensures.kept c.assemble_lines.ensures.read

pub returns-clause-lines : goal.returns-clause-lines
returns-clause-lines c = lines_from c.judging_is_right.ensures.meant c.one_assignment.ensures c.args.map.now c.args.source.now c.assemble_lines.result
    c.assemble_lines.ensures.exact c.assemble_lines.ensures.kept c.assemble_lines.ensures.read

pub returns-clause-labels : goal.returns-clause-labels
returns-clause-labels c = labels_from c.judging_is_right.ensures.meant c.one_assignment.ensures c.args.map.now c.args.source.now
    c.assemble_lines.result c.assemble_lines.ensures.exact c.assemble_lines.ensures.kept c.assemble_lines.ensures.read
