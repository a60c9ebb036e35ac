use Rattle.word_convert.proofs.converting.summed_written.Goals as goal

pub returns-in-None-clause-fault : goal.returns-in-None-clause-fault
returns-in-None-clause-fault c = record { part = c.args.part; is_part = c.requires.part; none = c.in-None.ensures.none }

pub returns-in-Ok-clause-found : goal.returns-in-Ok-clause-found
returns-in-Ok-clause-found c = record {
  part = c.args.part;
  is_part = c.requires.part;
  summed = c.in-Some.summed;
  is_summed =
      c.in-Some.ensures.summed;
  reads = c.in-Ok.ensures;
}
