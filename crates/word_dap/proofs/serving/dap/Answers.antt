use Rattle.std.proofs.Common.{inl, inr, refl, subst, sym, [], ◌≡◌, arith}
use Rattle.std.proofs.KnownBytes.{Appends-nil}
use Rattle.std.specs.Io.KnownBytes.{Appends}
use Rattle.arguments.proofs.Refusing.{not_refused, refuses}
use Rattle.arguments.specs.Words.{texts}
use Rattle.word_dap.proofs.Fitting.{asked_help, cut_first, fits_memory}
use Rattle.word_dap.specs.Attended.{Attends, CutsOff}
use Rattle.word_dap.specs.CommandLine.{dap_app, seen_in}
use Rattle.word_dap.proofs.serving.dap.Goals as goal

pub returns-in-Ok-clause-attended : goal.returns-in-Ok-clause-attended
returns-in-Ok-clause-attended g c zero = inr (
  c.in-Ok.ensures.fits,
  subst (λ seen. Attends seen (g.R.Read.remaining c.args.input.now) (g.R.Read.remaining c.done.new.input) (g.O.Write.contents c.args.output.now)
      (g.O.Write.contents c.done.new.output)) c.in-Ok.ensures.asked (c.done.ensures.attended zero),
)

pub returns-in-Err-clause-attended : goal.returns-in-Err-clause-attended
returns-in-Err-clause-attended g c zero = inl (asked_help dap_app (texts c.args.words.now) c.in-Err.fault c.refused_words.result
    c.in-Err.ensures.refused c.refused_words.ensures.status zero)

pub returns-in-Ok-clause-cut : goal.returns-in-Ok-clause-cut
returns-in-Ok-clause-cut g c fits some =
    subst (λ seen. CutsOff seen c.done.result (g.R.Read.remaining c.args.input.now) (g.R.Read.remaining c.done.new.input)
    (g.O.Write.contents c.args.output.now) (g.O.Write.contents c.done.new.output)) c.in-Ok.ensures.asked (c.done.ensures.cut some)

pub returns-in-Err-clause-cut : goal.returns-in-Err-clause-cut
returns-in-Err-clause-cut g c fits some =
    let three = fits_memory dap_app (texts c.args.words.now) c.in-Err.fault c.refused_words.result fits c.in-Err.ensures.refused
    c.refused_words.ensures.status in
    let same = c.refused_words.ensures.untouched some (rw three (omega arith)) in
    cut_first (seen_in (texts c.args.words.now)) c.refused_words.result (g.R.Read.remaining c.args.input.now) (g.O.Write.contents c.args.output.now)
    (g.O.Write.contents c.refused_words.new.output) three
    (subst (λ o. Appends (g.O.Write.contents c.args.output.now) (g.O.Write.contents o) []) (sym same) (Appends-nil _))

pub returns-in-Ok-clause-refused : goal.returns-in-Ok-clause-refused
returns-in-Ok-clause-refused g c =
    not_refused dap_app (texts c.args.words.now) ⊥ c.done.result (c.done.new.input ≡ c.args.input.now) (c.done.new.output ≡ c.args.output.now)
    c.in-Ok.ensures.fits (λ h. h)

pub returns-in-Err-clause-refused : goal.returns-in-Err-clause-refused
returns-in-Err-clause-refused g c =
    refuses dap_app (texts c.args.words.now) ⊥ c.in-Err.fault c.refused_words.result
    (c.args.input.now ≡ c.args.input.now) (c.refused_words.new.output ≡ c.args.output.now)
    c.in-Err.ensures.refused c.refused_words.ensures.status refl c.refused_words.ensures.untouched
