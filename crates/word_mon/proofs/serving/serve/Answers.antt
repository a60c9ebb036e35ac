use Rattle.std.proofs.Common.{[], ◌++◌, ap, inl, refl, subst}
use Rattle.std.proofs.KnownBytes.{Consumes-nil}
use Rattle.std.proofs.lemmas.Result.{IfErr-weaker, IfOk-weaker}
use Rattle.std.specs.Io.KnownBytes.{Appends}
use Rattle.model.specs.Writers.{AppendsFront}
use Rattle.model.proofs.Written.{front_none}
use Rattle.word_mon.specs.Attended.{AttendsInPart, prompt_of}
use Rattle.word_mon.specs.Done.{opening}
use Rattle.word_mon.proofs.LinesServed.{shows_attended, shows_in_part, shows_so_far}
use Rattle.word_mon.proofs.Pieces.{if_err_anyway, some_none}
use Rattle.word_mon.proofs.serving.serve.Goals as goal

pub returns-clause-attended : goal.returns-clause-attended
returns-clause-attended g c =
    let first = c.args.terminal.now in
    let begun = c.say_opening.new.terminal in
    let prompts = c.args.prompts in
    IfOk-weaker c.attend.result _ _ (λ _ h. (
      h.0,
      shows_attended prompts (g.R.Read.remaining c.args.input.now) (g.R.Read.remaining c.attend.new.reader) first begun c.attend.new.terminal h.0
          c.in_ok-say_opening.ensures.rests h.1,
      subst (Appends (g.O.Write.contents c.args.output.now) (g.O.Write.contents c.attend.new.writer))
          (ap (λ t. t ++ h.0) c.in_ok-say_opening.ensures.said) h.2,
    )) c.attend.ensures.attended

pub returns-clause-unread : goal.returns-clause-unread
returns-clause-unread g c unread =
    let first = c.args.terminal.now in
    let begun = c.say_opening.new.terminal in
    let prompts = c.args.prompts in
    let h = c.attend.ensures.unread unread in (
      h.0,
      shows_so_far prompts (g.R.Read.remaining c.args.input.now) (g.R.Read.remaining c.attend.new.reader) first begun c.attend.new.terminal h.0
          c.in_ok-say_opening.ensures.rests h.1,
      subst (Appends (g.O.Write.contents c.args.output.now) (g.O.Write.contents c.attend.new.writer))
          (ap (λ t. t ++ h.0) c.in_ok-say_opening.ensures.said) h.2,
    )

-- nothing was written
pub returns-in_err-say_opening-clause-broken : goal.returns-in_err-say_opening-clause-broken
returns-in_err-say_opening-clause-broken g c =
    let first = c.args.terminal.now in
    let prompt = prompt_of c.args.prompts in
    let none : AttendsInPart c.args.prompts (opening c.args.prompts c.args.warning_line.now first) first (g.R.Read.remaining c.args.input.now)
    (g.R.Read.remaining c.args.input.now) (g.O.Write.contents c.args.output.now) (g.O.Write.contents c.args.output.now)
    = (first, prompt ++ [], ([], Consumes-nil _, [], refl, inl (some_none prompt first)), front_none _ _) in
    if_err_anyway _ _ none

pub returns-clause-broken : goal.returns-clause-broken
returns-clause-broken g c =
    let first = c.args.terminal.now in
    let begun = c.say_opening.new.terminal in
    let prompts = c.args.prompts in
    IfErr-weaker c.attend.result _ _ (λ _ h. (
      h.0,
      h.1,
      shows_in_part prompts (g.R.Read.remaining c.args.input.now) (g.R.Read.remaining c.attend.new.reader) first begun h.0 h.1
          c.in_ok-say_opening.ensures.rests h.2,
      subst (AppendsFront (g.O.Write.contents c.args.output.now) (g.O.Write.contents c.attend.new.writer))
          (ap (λ t. t ++ h.1) c.in_ok-say_opening.ensures.said) h.3,
    )) c.attend.ensures.broken
