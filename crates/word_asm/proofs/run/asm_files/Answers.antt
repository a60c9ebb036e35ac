use Rattle.std.proofs.Common.{inl, inr, refl}
use Rattle.arguments.proofs.Parsed.{says_of_words}
use Rattle.arguments.specs.Words.{texts}
use Rattle.word_asm.specs.CommandLine.{asm}
use Rattle.word_asm.specs.Views.{files_view}
use Rattle.word_asm.proofs.run.asm_files.Goals as goal

pub returns-in-Ok-clause-done : goal.returns-in-Ok-clause-done
returns-in-Ok-clause-done g c = λ h. inr (files_view c.in-Ok.words, c.in-Ok.ensures.fits, c.in-Ok.ensures.asked, (c.serve_words.ensures.done h, refl))

pub returns-in-Ok-clause-rejected : goal.returns-in-Ok-clause-rejected
returns-in-Ok-clause-rejected g c = λ h. (files_view c.in-Ok.words, c.in-Ok.ensures.fits, c.in-Ok.ensures.asked, c.serve_words.ensures.rejected h)

pub returns-in-Ok-clause-refused : goal.returns-in-Ok-clause-refused
returns-in-Ok-clause-refused g c = λ h. inr (inr (files_view c.in-Ok.words, c.in-Ok.ensures.fits, c.in-Ok.ensures.asked, c.serve_words.ensures.refused h))

pub returns-in-Ok-clause-begun : goal.returns-in-Ok-clause-begun
returns-in-Ok-clause-begun g c = λ h. inr (c.in-Ok.ensures.fits, refl)

pub returns-in-Err-clause-done : goal.returns-in-Err-clause-done
returns-in-Err-clause-done g c = λ h. inl ((says_of_words asm (texts c.args.words.now) _ _ _ c.in-Err.ensures.refused
    c.refused_words.ensures.status).help (inl h))

pub returns-in-Err-clause-rejected : goal.returns-in-Err-clause-rejected
returns-in-Err-clause-rejected g c = λ h. absurd ((says_of_words asm (texts c.args.words.now) _ _ _ c.in-Err.ensures.refused
    c.refused_words.ensures.status).never h)

pub returns-in-Err-clause-refused : goal.returns-in-Err-clause-refused
returns-in-Err-clause-refused g c = λ h. elim ((says_of_words asm (texts c.args.words.now) _ _ _ c.in-Err.ensures.refused
    c.refused_words.ensures.status).wrong h) [ inl m ↦ inl m | inr w ↦ inr (inl w) ]

pub returns-in-Err-clause-begun : goal.returns-in-Err-clause-begun
returns-in-Err-clause-begun g c = λ h. inl ((says_of_words asm (texts c.args.words.now) _ _ _ c.in-Err.ensures.refused
    c.refused_words.ensures.status).help (inr h))
