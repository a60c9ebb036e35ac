use Rattle.word_run.proofs.ended.tell_interrupted.Goals as goal

pub returns : goal.returns
returns g c = (c.site_of-site.result.items, c.site_of-site.ensures, rw c.as_slice.ensures.value at c.put_interrupted.ensures)
