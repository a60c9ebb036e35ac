use Rattle.std.proofs.Common.{◌≡◌, None, ap, arith, inl, inr, refl, subst}
use Rattle.arguments.proofs.Parsed.{not_both, one_asked, says_of_words}
use Rattle.arguments.proofs.Refusing.{not_refused, refuses}
use Rattle.arguments.specs.Words.{texts}
use Rattle.word_lsp.specs.CommandLine.{LspAsked, lsp_app, lsp_asked, lsp_view}
use Rattle.word_lsp.specs.Sessions.{IsServed, map_for}
use Rattle.word_lsp.proofs.Ended.{at_end, served_with}
use Rattle.word_lsp.proofs.Refused.{cut_early}
use Rattle.word_lsp.proofs.serving.lsp.Goals as goal

pub returns-in-Ok-clause-session : goal.returns-in-Ok-clause-session
returns-in-Ok-clause-session g c a h fits other =
    subst (λ (b : LspAsked). IsServed (map_for b) (g.R.Read.remaining c.args.input.now) (g.R.Read.remaining c.serve_words.new.input) c.serve_words.result
    (g.O.Write.contents c.args.output.now) (g.O.Write.contents c.serve_words.new.output))
    (one_asked _ (lsp_view c.in-Ok.words) a c.in-Ok.ensures.asked h) (c.serve_words.ensures.session other)

pub returns-in-Err-clause-session : goal.returns-in-Err-clause-session
returns-in-Err-clause-session g c a h fits other =
    cut_early (texts c.args.words.now) c.in-Err.fault c.refused_words.result a _ _ _ c.in-Err.ensures.refused c.refused_words.ensures.status h fits other
    (λ least most. ap (λ o. g.O.Write.contents o) (c.refused_words.ensures.untouched least most))

pub returns-in-Ok-clause-right : goal.returns-in-Ok-clause-right
returns-in-Ok-clause-right g c = λ zero.
    inr (
      lsp_view c.in-Ok.words,
      c.in-Ok.ensures.fits,
      c.in-Ok.ensures.asked,
      at_end _ _ _ _ _ c.serve_words.result 0
          (c.serve_words.ensures.session (λ e. omega (arith, zero, e))) zero (omega arith),
    )

pub returns-in-Ok-clause-early : goal.returns-in-Ok-clause-early
returns-in-Ok-clause-early g c = λ one. (
  lsp_view c.in-Ok.words,
  c.in-Ok.ensures.fits,
  c.in-Ok.ensures.asked,
  at_end _ _ _ _ _ c.serve_words.result 1
      (c.serve_words.ensures.session (λ e. omega (arith, one, e))) one (omega arith),
)

pub returns-in-Ok-clause-wrong : goal.returns-in-Ok-clause-wrong
returns-in-Ok-clause-wrong g c = λ two. inr (inr (lsp_view c.in-Ok.words, c.in-Ok.ensures.fits, c.in-Ok.ensures.asked, c.serve_words.ensures.wrong two))

pub returns-in-Ok-clause-cut : goal.returns-in-Ok-clause-cut
returns-in-Ok-clause-cut g c = λ four. inr (
  lsp_view c.in-Ok.words,
  c.in-Ok.ensures.fits,
  c.in-Ok.ensures.asked,
  served_with _ _ _ _ _ c.serve_words.result 4
      (c.serve_words.ensures.session (λ e. omega (arith, four, e))) four,
)

pub returns-in-Err-clause-right : goal.returns-in-Err-clause-right
returns-in-Err-clause-right g c = λ zero. inl ((says_of_words lsp_app (texts c.args.words.now) _ _ _ c.in-Err.ensures.refused
    c.refused_words.ensures.status).help (inl zero))

pub returns-in-Err-clause-early : goal.returns-in-Err-clause-early
returns-in-Err-clause-early g c = λ one. absurd ((says_of_words lsp_app (texts c.args.words.now) _ _ _ c.in-Err.ensures.refused
    c.refused_words.ensures.status).never one)

pub returns-in-Err-clause-wrong : goal.returns-in-Err-clause-wrong
returns-in-Err-clause-wrong g c = λ two. elim ((says_of_words lsp_app (texts c.args.words.now) _ _ _ c.in-Err.ensures.refused
    c.refused_words.ensures.status).wrong two) [ inl m ↦ inl m | inr w ↦ inr (inl w) ]

pub returns-in-Err-clause-cut : goal.returns-in-Err-clause-cut
returns-in-Err-clause-cut g c = λ four. inl ((says_of_words lsp_app (texts c.args.words.now) _ _ _ c.in-Err.ensures.refused
    c.refused_words.ensures.status).help (inr four))

pub returns-in-Ok-clause-refused : goal.returns-in-Ok-clause-refused
returns-in-Ok-clause-refused g c =
    not_refused lsp_app (texts c.args.words.now) (lsp_asked (texts c.args.words.now) ≡ None) c.serve_words.result
    (c.serve_words.new.input ≡ c.args.input.now) (c.serve_words.new.output ≡ c.args.output.now)
    c.in-Ok.ensures.fits (not_both _ (lsp_view c.in-Ok.words) c.in-Ok.ensures.asked)

pub returns-in-Err-clause-refused : goal.returns-in-Err-clause-refused
returns-in-Err-clause-refused g c =
    refuses lsp_app (texts c.args.words.now) (lsp_asked (texts c.args.words.now) ≡ None) c.in-Err.fault c.refused_words.result
    (c.args.input.now ≡ c.args.input.now) (c.refused_words.new.output ≡ c.args.output.now)
    c.in-Err.ensures.refused c.refused_words.ensures.status refl c.refused_words.ensures.untouched
