use Rattle.word_run.proofs.ended.tell_ending.Goals as goal

pub returns-clause-told : goal.returns-clause-told
returns-clause-told g c = (c.site_of_ending-site.result.items, c.site_of_ending-site.ensures, rw c.as_slice.ensures.value at c.put_ending.ensures.told)
