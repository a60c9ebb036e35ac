use Rattle.page_writer.proofs.Whole.{three_parts}
use Rattle.page_writer.proofs.page.write_page.Goals as goal

pub returns : goal.returns
returns g c =
    let run = c.in_ok-played.ensures in (
      run.0,
      run.1,
      run.2,
      run.3,
      record {
        facts = c.in_ok-put_front.ensures.facts;
        source = c.in_ok-put_front.ensures.source;
        run = run.4;
        why = rw c.why_words.ensures at c.in_ok-put_end.ensures.why;
      },
      three_parts _ _ _ _ _ _ _ c.in_ok-put_front.ensures.text run.5 (rw c.why_words.ensures at c.in_ok-put_end.ensures.text),
    )
