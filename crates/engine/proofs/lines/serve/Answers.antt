use Rattle.std.proofs.KnownBytes.{Appends-nil, Appends-trans, Consumes-nil, Consumes-trans, Consumes-whole, Consumes-kept}
use Rattle.std.proofs.Common.{◌≡◌, [], ◌++◌, sym, ap, subst, take, length, refl, append-nil, arith, true, false, ◌<◌, inl, inr}
use Rattle.std.proofs.lemmas.Bool.{eqb-true, eqb-false}
use Rattle.std.specs.Io.KnownBytes.{Appends}
use Rattle.model.specs.TextLines.{last_line}
use Rattle.model.specs.Transcript.{transcript}
use Rattle.engine.specs.Feeding.{feed}
use Rattle.engine.proofs.Outcomes.{replying_serves, replying_serving}
use Rattle.model.proofs.Written.{front_after, front_more}
use Rattle.engine.proofs.Feeds.{ServesSoFar, served_start}
use Rattle.engine.proofs.Serving.{known, served_more, served_quit, served_bytes, none_quits, so_far, served_all, served_last, length_zero, length_some}
use Rattle.engine.proofs.lines.serve.Goals as goal

pub loop-init : goal.loop-init
loop-init g c = (
  [],
  [],
  Consumes-nil _,
  Appends-nil _,
  subst (ServesSoFar c.args.session.now [] [] c.args.session.now) (sym c.new-begun.ensures)
      (served_start c.args.session.now),
)

pub returns-then-is_empty-clause-serves : goal.returns-then-is_empty-clause-serves
returns-then-is_empty-clause-serves g c =
    let inv = c.loop.invariant in
    let bytes = rw c.in-Ok-eq0.field-0-test at c.in-Ok-eq0.ensures.bytes in
    let none : c.loop.begun.items ≡ [] = length_zero c.loop.begun.items (eqb-true _ _ (sym c.if-is_empty.ensures)) in
    let all = served_all _ _ inv.0 inv.1 _ inv.4 none in
    let told = Consumes-trans _ _ _ inv.0 [] inv.2 bytes.0 in
    Consumes-whole _ _ _ (λ input. Appends (g.W.Write.contents c.args.writer.now) (g.W.Write.contents c.loop.writer)
    (transcript c.args.session.now input).written)
    told (bytes.1 refl (omega arith)) (rw (append-nil inv.0, all) inv.3)

pub returns-in-Ok-serve_line-clause-serves : goal.returns-in-Ok-serve_line-clause-serves
returns-in-Ok-serve_line-clause-serves g c =
    let inv = c.loop.invariant in
    let bytes = rw c.in-Ok-eq0.field-0-test at c.in-Ok-eq0.ensures.bytes in
    let line = rw c.as_slice.ensures.value at c.in-Ok-serve_line.ensures in
    let some : 0 < length c.loop.begun.items = length_some c.loop.begun.items (eqb-false _ _ (sym c.if-is_empty.ensures)) in
    let all = served_last _ _ inv.0 inv.1 _ inv.4 some in
    let told = Consumes-trans _ _ _ inv.0 [] inv.2 bytes.0 in
    Consumes-whole _ _ _ (λ input. Appends (g.W.Write.contents c.args.writer.now) (g.W.Write.contents c.serve_line.new.writer)
    (transcript c.args.session.now input).written)
    told (bytes.1 refl (omega arith)) (rw (append-nil inv.0, all) (Appends-trans _ _ _ _ _ inv.3 line.writes))

pub returns-in-Err-serve_line-clause-serves : goal.returns-in-Err-serve_line-clause-serves
returns-in-Err-serve_line-clause-serves g c =
    let inv = c.loop.invariant in
    let bytes = rw c.in-Ok-eq0.field-0-test at c.in-Ok-eq0.ensures.bytes in
    let line = rw c.as_slice.ensures.value at c.in-Err-serve_line.ensures in
    let some : 0 < length c.loop.begun.items = length_some c.loop.begun.items (eqb-false _ _ (sym c.if-is_empty.ensures)) in
    let all = served_last _ _ inv.0 inv.1 _ inv.4 some in
    let told = Consumes-trans _ _ _ inv.0 [] inv.2 bytes.0 in
    replying_serves (Unit {0}) c.args.session.now (g.R.Read.remaining c.args.reader.now) _ (g.W.Write.contents c.args.writer.now) _
    c.in-Err-serve_line.fault c.in-Err-serve_line.ensures.fault
    (inv.0, rw (append-nil inv.0) at told, inr (bytes.1 refl (omega arith), rw all (front_after _ _ _ _ _ inv.3 line.writes)))

pub returns-in-Ok-true-clause-serves : goal.returns-in-Ok-true-clause-serves
returns-in-Ok-true-clause-serves g c =
    let inv = c.loop.invariant in
    let bs = take c.in-Ok.n c.read.new.buf in
    let fed_is = rw c.in-Ok-true.field-0-test at c.in-Ok-true.ensures.ok in
    let off : (feed c.loop.session c.loop.begun.items bs).quit ≡ true = ap (λ r. r.quit) fed_is in
    let told = Consumes-trans _ _ _ inv.0 bs inv.2 c.in-Ok.ensures.bytes.0 in
    known _ _ (inv.0 ++ bs) (λ input. Appends (g.W.Write.contents c.args.writer.now) (g.W.Write.contents c.serve_bytes.new.writer)
    (transcript c.args.session.now input).written)
    told (λ left. rw (served_quit _ _ inv.0 inv.1 _ inv.4 last_line bs left off) (Appends-trans _ _ _ _ _ inv.3 c.in-Ok-true.ensures.writes))

pub returns-in-Err-serve_bytes-clause-serves : goal.returns-in-Err-serve_bytes-clause-serves
returns-in-Err-serve_bytes-clause-serves g c =
    let inv = c.loop.invariant in
    let bs = take c.in-Ok.n c.read.new.buf in
    let told = Consumes-trans _ _ _ inv.0 bs inv.2 c.in-Ok.ensures.bytes.0 in
    replying_serves (Unit {0}) c.args.session.now (g.R.Read.remaining c.args.reader.now) _ (g.W.Write.contents c.args.writer.now) _
    c.in-Err-serve_bytes.fault c.in-Err-serve_bytes.ensures.fault (
      inv.0 ++ bs,
      told,
      inl (let more = served_bytes _ _ inv.0 inv.1 _ inv.4 bs in
          rw more.1 (front_after _ _ _ inv.1 _ inv.3 (front_more _ _ _ more.0 c.in-Err-serve_bytes.ensures.writes))),
    )

pub returns-in-Err-clause-serves : goal.returns-in-Err-clause-serves
returns-in-Err-clause-serves g c =
    let inv = c.loop.invariant in
    (inv.0, Consumes-kept _ _ _ _ inv.2 c.in-Err.ensures.bytes, none_quits _ _ inv.0 inv.1 _ inv.4, rw (so_far _ _ inv.0 inv.1 _ inv.4) inv.3)

pub loop-preserved : goal.loop-preserved
loop-preserved g c =
    let inv = c.loop.invariant in
    let bs = take c.in-Ok.n c.read.new.buf in
    let fed_is = rw c.in-Ok-false.field-0-test at c.in-Ok-false.ensures.ok in
    let on : (feed c.loop.session c.loop.begun.items bs).quit ≡ false = ap (λ r. r.quit) fed_is in
    let now = served_more _ _ inv.0 inv.1 _ inv.4 bs on in (
      inv.0 ++ bs,
      inv.1 ++ (feed c.loop.session c.loop.begun.items bs).written,
      Consumes-trans _ _ _ inv.0 bs inv.2 c.in-Ok.ensures.bytes.0,
      Appends-trans _ _ _ _ _ inv.3 c.in-Ok-false.ensures.writes,
      subst (λ s. ServesSoFar c.args.session.now (inv.0 ++ bs) (inv.1 ++ (feed c.loop.session c.loop.begun.items bs).written) s
          c.serve_bytes.new.begun.items) (ap (λ r. r.session) fed_is)
          (subst (λ k. ServesSoFar c.args.session.now (inv.0 ++ bs) (inv.1 ++ (feed c.loop.session c.loop.begun.items bs).written)
          (feed c.loop.session c.loop.begun.items bs).session k) (ap (λ r. r.kept) fed_is) now),
    )

pub returns-clause-serves : goal.returns-clause-serves
returns-clause-serves g c = let inv = c.loop.invariant in (inv.0, inv.2, none_quits _ _ inv.0 inv.1 _ inv.4, rw (so_far _ _ inv.0 inv.1 _ inv.4) inv.3)

pub returns-in-Err-serve_line-clause-only : goal.returns-in-Err-serve_line-clause-only
returns-in-Err-serve_line-clause-only g c = replying_serving c.in-Err-serve_line.fault c.in-Err-serve_line.ensures.fault

pub returns-in-Err-serve_bytes-clause-only : goal.returns-in-Err-serve_bytes-clause-only
returns-in-Err-serve_bytes-clause-only g c = replying_serving c.in-Err-serve_bytes.fault c.in-Err-serve_bytes.ensures.fault
