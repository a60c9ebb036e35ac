use Rattle.std.proofs.Common.{inl, inr}
use Rattle.arguments.proofs.Parsed.{says_of_words}
use Rattle.arguments.specs.Words.{texts}
use Rattle.word_convert.specs.CommandLine.{convert}
use Rattle.word_convert.proofs.Refused.{fitting}
use Rattle.word_convert.proofs.run.convert.Goals as goal

pub returns-in-Err-clause-refused : goal.returns-in-Err-clause-refused
returns-in-Err-clause-refused g c = λ two. elim ((says_of_words convert (texts c.args.words.now) _ _ _ c.in-Err.ensures.refused
    c.refused_words.ensures.status).wrong two) [ inl m ↦ inl m | inr w ↦ inr w ]

pub returns-in-Err-clause-silent : goal.returns-in-Err-clause-silent
returns-in-Err-clause-silent g c = λ fits.
    let said = fitting convert (texts c.args.words.now) _ _ _ c.in-Err.ensures.refused c.refused_words.ensures.status fits in
    c.refused_words.ensures.untouched said.0 said.1

pub returns-in-Ok-clause-refused : goal.returns-in-Ok-clause-refused
returns-in-Ok-clause-refused g c = λ two. absurd (c.serve_words.ensures.two two)
