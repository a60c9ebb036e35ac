use Rattle.std.proofs.Common.{inl, inr}
use Rattle.arguments.proofs.Parsed.{says_of_words}
use Rattle.arguments.specs.Words.{texts}
use Rattle.word_convert.specs.ListingAsked.{dis_view}
use Rattle.word_convert.specs.ListingCommandLine.{dis}
use Rattle.word_convert.proofs.dis_rows.run.dis_image.Goals as goal

pub returns-in-Ok-clause-done : goal.returns-in-Ok-clause-done
returns-in-Ok-clause-done g c = λ zero. inr (dis_view c.in-Ok.words, c.in-Ok.ensures.taken, c.in-Ok.ensures.asked, c.write_rows.ensures.done zero)

pub returns-in-Ok-clause-refused : goal.returns-in-Ok-clause-refused
returns-in-Ok-clause-refused g c = λ two. absurd (c.write_rows.ensures.never two)

pub returns-in-Ok-clause-wrong : goal.returns-in-Ok-clause-wrong
returns-in-Ok-clause-wrong g c = λ one. (dis_view c.in-Ok.words, c.in-Ok.ensures.taken, c.in-Ok.ensures.asked, c.write_rows.ensures.wrong one)

pub returns-in-Ok-clause-begun : goal.returns-in-Ok-clause-begun
returns-in-Ok-clause-begun g c = λ four. inr (dis_view c.in-Ok.words, c.in-Ok.ensures.taken, c.in-Ok.ensures.asked, c.write_rows.ensures.begun four)

pub returns-in-Err-clause-done : goal.returns-in-Err-clause-done
returns-in-Err-clause-done g c = λ zero. inl ((says_of_words dis (texts c.args.words.now) _ _ _ c.in-Err.ensures.refused
    c.refused_words.ensures.status).help (inl zero))

pub returns-in-Err-clause-wrong : goal.returns-in-Err-clause-wrong
returns-in-Err-clause-wrong g c = λ one. absurd ((says_of_words dis (texts c.args.words.now) _ _ _ c.in-Err.ensures.refused
    c.refused_words.ensures.status).never one)

pub returns-in-Err-clause-refused : goal.returns-in-Err-clause-refused
returns-in-Err-clause-refused g c = λ two. elim ((says_of_words dis (texts c.args.words.now) _ _ _ c.in-Err.ensures.refused
    c.refused_words.ensures.status).wrong two) [ inl m ↦ inl m | inr w ↦ inr w ]

pub returns-in-Err-clause-begun : goal.returns-in-Err-clause-begun
returns-in-Err-clause-begun g c = λ four. inl ((says_of_words dis (texts c.args.words.now) _ _ _ c.in-Err.ensures.refused
    c.refused_words.ensures.status).help (inr four))
