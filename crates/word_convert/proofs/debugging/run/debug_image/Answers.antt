use Rattle.std.proofs.Common.{inl, inr}
use Rattle.arguments.proofs.Parsed.{says_of_words}
use Rattle.arguments.specs.Words.{texts}
use Rattle.word_convert.specs.DebugAsked.{debug_view}
use Rattle.word_convert.specs.DebugCommandLine.{debug}
use Rattle.word_convert.proofs.debugging.run.debug_image.Goals as goal

pub returns-in-Ok-clause-ended : goal.returns-in-Ok-clause-ended
returns-in-Ok-clause-ended g c = λ zero. inr (debug_view c.in-Ok.words, c.in-Ok.ensures.taken, c.in-Ok.ensures.asked, c.serve_words.ensures.ended zero)

pub returns-in-Ok-clause-wrong : goal.returns-in-Ok-clause-wrong
returns-in-Ok-clause-wrong g c = λ one. (debug_view c.in-Ok.words, c.in-Ok.ensures.taken, c.in-Ok.ensures.asked, c.serve_words.ensures.wrong one)

pub returns-in-Ok-clause-refused : goal.returns-in-Ok-clause-refused
returns-in-Ok-clause-refused g c = λ two. inr (inr (debug_view c.in-Ok.words, c.in-Ok.ensures.taken, c.in-Ok.ensures.asked, c.serve_words.ensures.bad two))

pub returns-in-Err-clause-ended : goal.returns-in-Err-clause-ended
returns-in-Err-clause-ended g c = λ zero. inl ((says_of_words debug (texts c.args.words.now) _ _ _ c.in-Err.ensures.refused
    c.refused_words.ensures.status).help (inl zero))

pub returns-in-Err-clause-wrong : goal.returns-in-Err-clause-wrong
returns-in-Err-clause-wrong g c = λ one. absurd ((says_of_words debug (texts c.args.words.now) _ _ _ c.in-Err.ensures.refused
    c.refused_words.ensures.status).never one)

pub returns-in-Err-clause-refused : goal.returns-in-Err-clause-refused
returns-in-Err-clause-refused g c = λ two. elim ((says_of_words debug (texts c.args.words.now) _ _ _ c.in-Err.ensures.refused
    c.refused_words.ensures.status).wrong two) [ inl m ↦ inl m | inr w ↦ inr (inl w) ]
