use Rattle.std.proofs.Common.{◌∙◌, [], append-nil, sym}
use Rattle.std.proofs.KnownBytes.{Appends-nil}
use Rattle.word_trace.proofs.Cutting.{reached_cut}
use Rattle.word_trace.specs.Gathered.{gathered}
use Rattle.word_trace.proofs.Going.{reached_here, reached_if_made}
use Rattle.word_trace.proofs.trace.run_to_start.Goals as goal

pub returns-then-is_begun-clause-ok : goal.returns-then-is_begun-clause-ok
returns-then-is_begun-clause-ok g c = reached_here c.args.from c.args.session.now c.args.player.now _ (gathered c.args.tracer.now)
    (sym c.is_begun.ensures ∙ c.if-is_begun.true)

pub returns-clause-ok : goal.returns-clause-ok
returns-clause-ok g c =
    reached_if_made c.args.from c.args.session.now c.run_to_place.new.session c.args.player.now c.run_to_place.new.player
    (g.R.Read.remaining c.args.input.now) (g.R.Read.remaining c.run_to_place.new.input) (gathered c.args.tracer.now)
    (gathered c.run_to_place.new.tracer) c.run_to_place.result (sym c.is_begun.ensures ∙ c.if-is_begun.false) c.run_to_place.ensures.ok

pub returns-then-is_begun-clause-output : goal.returns-then-is_begun-clause-output
returns-then-is_begun-clause-output g c = ([], sym (append-nil c.args.session.now.current.bus.out), Appends-nil _)

pub returns-clause-err : goal.returns-clause-err
returns-clause-err g c =
    reached_cut c.args.from c.args.session.now c.args.player.now
    (g.R.Read.remaining c.args.input.now) (g.R.Read.remaining c.run_to_place.new.input) c.run_to_place.new.session c.run_to_place.new.player.is_over
    c.run_to_place.result (sym c.is_begun.ensures ∙ c.if-is_begun.false) c.run_to_place.ensures.err
