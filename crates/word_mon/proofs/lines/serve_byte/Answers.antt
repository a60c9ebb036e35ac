use Rattle.std.proofs.Common.{◌∙◌, ◌++◌, ◌∷◌, [], ap, arith, length, take, ◌<◌, ◌≤◌}
use Rattle.std.proofs.KnownBytes.{Appends-nil}
use Rattle.std.specs.Io.KnownBytes.{Appends}
use Rattle.word_mon.specs.Attended.{prompt_of}
use Rattle.word_mon.proofs.Pieces.{broken_of, byte_on, fed_of, kept_full, kept_room}
use Rattle.word_mon.proofs.lines.serve_byte.Goals as goal

pub returns-then-byte-eq10-clause-fed : goal.returns-then-byte-eq10-clause-fed
returns-then-byte-eq10-clause-fed g c =
    fed_of (prompt_of c.args.prompts) c.serve_begun.result c.args.byte c.args.begun.now.items c.serve_begun.new.begun.items c.args.terminal.now
    c.serve_begun.new.terminal
    (Appends (g.W.Write.contents c.args.writer.now) (g.W.Write.contents c.serve_begun.new.writer)) c.if-byte-eq10.true
    c.serve_begun.ensures.served c.serve_begun.ensures.cleared

pub returns-then-len-lt257-clause-fed : goal.returns-then-len-lt257-clause-fed
returns-then-len-lt257-clause-fed g c = (
  [],
  λ told first before s.
      let room : length (take 257 s.begun) < 257 = omega (arith, c.if-len-lt257.true, c.len.ensures.value, ap length s.front) in
      byte_on (prompt_of c.args.prompts) told c.args.begun.now.items first c.args.terminal.now before s c.args.byte c.push.new.self.items c.if-byte-eq10.false
      (c.push.ensures.items ∙ ap (λ k. k ++ c.args.byte ∷ []) s.front ∙ kept_room s.begun c.args.byte room),
  λ _. Appends-nil _,
)

pub returns-else-len-lt257-clause-fed : goal.returns-else-len-lt257-clause-fed
returns-else-len-lt257-clause-fed g c = (
  [],
  λ told first before s.
      let full : 257 ≤ length (take 257 s.begun) = omega (arith, c.if-len-lt257.false, c.len.ensures.value, ap length s.front) in
      byte_on (prompt_of c.args.prompts) told c.args.begun.now.items first c.args.terminal.now before s c.args.byte c.args.begun.now.items c.if-byte-eq10.false
      (s.front ∙ kept_full s.begun c.args.byte full),
  λ _. Appends-nil _,
)

pub returns-then-byte-eq10-clause-broken : goal.returns-then-byte-eq10-clause-broken
returns-then-byte-eq10-clause-broken g c =
    broken_of (prompt_of c.args.prompts) c.serve_begun.result c.args.byte c.args.begun.now.items c.args.terminal.now
    (g.W.Write.contents c.args.writer.now) (g.W.Write.contents c.serve_begun.new.writer) c.if-byte-eq10.true
    c.serve_begun.ensures.broken
