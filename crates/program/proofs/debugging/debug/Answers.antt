use Rattle.std.proofs.Common.{◌≡◌, IfErr, subst}
use Rattle.model.specs.Source as sources
use Rattle.papertape.specs.Streaming.{IsImageOf}
use Rattle.program.specs.Refusals.{EndsDebug}
use Rattle.program.specs.Streams.{IsServed}
use Rattle.program.proofs.Ends.{refused_from, served_from, served_of}
use Rattle.program.proofs.debugging.debug.Goals as goal

pub returns-in_ok-tape-clause-refused : goal.returns-in_ok-tape-clause-refused
returns-in_ok-tape-clause-refused g c =
    subst (λ map. IfErr c.answered.result (EndsDebug c.args.words.now.is_tape map)) c.in_ok-map.ensures.map
    (refused_from c.in_ok-map.map c.args.words.now.is_tape (g.H.File.Read.remaining c.in_ok-tape.tape.inner) c.debug_tape_from.result
    c.answered.result c.if-words.true
    c.debug_tape_from.ensures.refused c.debug_tape_from.ensures.session c.debug_tape_from.ensures.source c.answered.ensures)

pub returns-in_ok-tape-clause-served : goal.returns-in_ok-tape-clause-served
returns-in_ok-tape-clause-served g c =
    subst (λ map. IsServed map c.args.words.now.history (g.R.Read.remaining c.args.input.now) (g.R.Read.remaining c.debug_tape_from.new.reader)
    (g.O.Write.contents c.args.output.now) (g.O.Write.contents c.debug_tape_from.new.writer) c.answered.result
    ((c.debug_tape_from.new.reader ≡ c.args.input.now) × (c.debug_tape_from.new.writer ≡ c.args.output.now))) c.in_ok-map.ensures.map
    (served_from c.in_ok-map.map c.args.words.now.history _ _ _ _ _ (IsImageOf (g.H.File.Read.remaining c.in_ok-tape.tape.inner))
    c.debug_tape_from.result c.answered.result c.debug_tape_from.ensures.serves c.answered.ensures)

pub returns-in_ok-source-clause-served : goal.returns-in_ok-source-clause-served
returns-in_ok-source-clause-served g c =
    subst (λ map. IsServed map c.args.words.now.history (g.R.Read.remaining c.args.input.now) (g.R.Read.remaining c.debug_source.new.reader)
    (g.O.Write.contents c.args.output.now) (g.O.Write.contents c.debug_source.new.writer) c.answered-else-words.result
    ((c.debug_source.new.reader ≡ c.args.input.now) × (c.debug_source.new.writer ≡ c.args.output.now))) c.in_ok-map.ensures.map
    (served_of c.in_ok-map.map c.args.words.now.history _ _ _ _ _ (sources.Denotes c.in_ok-map.map c.as_slice.result.now) c.debug_source.result
    c.answered-else-words.result c.debug_source.ensures.serves c.debug_source.ensures.reaches c.answered-else-words.ensures)
