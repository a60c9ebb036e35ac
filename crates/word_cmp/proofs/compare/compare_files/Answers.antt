use Rattle.word_cmp.specs.Sides.{side_view}
use Rattle.word_cmp.specs.CompareWord.{IsSaid}
use Rattle.word_cmp.proofs.CompareWord.{about_of, memory, the_first}
use Rattle.tape_words.proofs.Said.{said_front, said_right, said_wrong}
use Rattle.tape_words.specs.Asked.{cmp_view}
use Rattle.word_cmp.proofs.compare.compare_files.Goals as goal

pub returns-clause-right : goal.returns-clause-right
returns-clause-right g c = λ zero. said_right (IsSaid (cmp_view c.args.words.now)) c.compared.result c.answered.result _ _
    (about_of (cmp_view c.args.words.now) (side_view c.in-Ok.side) (side_view c.in-Ok-side_of.side) c.compared.result c.in-Ok.ensures.side
    c.in-Ok-side_of.ensures.side c.in-Ok.ensures.image c.in-Ok-side_of.ensures.image c.compared.ensures.rows) c.answered.ensures.said zero

pub returns-clause-wrong : goal.returns-clause-wrong
returns-clause-wrong g c = λ one. the_first (said_wrong (IsSaid (cmp_view c.args.words.now)) c.compared.result c.answered.result _ _ ⊥
    (about_of (cmp_view c.args.words.now) (side_view c.in-Ok.side) (side_view c.in-Ok-side_of.side) c.compared.result c.in-Ok.ensures.side
    c.in-Ok-side_of.ensures.side c.in-Ok.ensures.image c.in-Ok-side_of.ensures.image c.compared.ensures.rows) c.answered.ensures.said
    (memory c.compared.result c.answered.result _ _ c.compared.ensures.only c.answered.ensures.said one) one)

pub returns-clause-begun : goal.returns-clause-begun
returns-clause-begun g c = λ four. said_front (IsSaid (cmp_view c.args.words.now)) c.compared.result c.answered.result _ _ _
    (about_of (cmp_view c.args.words.now) (side_view c.in-Ok.side) (side_view c.in-Ok-side_of.side) c.compared.result c.in-Ok.ensures.side
    c.in-Ok-side_of.ensures.side c.in-Ok.ensures.image c.in-Ok-side_of.ensures.image c.compared.ensures.rows) c.answered.ensures.said
    c.answered.ensures.alone four
