use Rattle.std.proofs.Common.{◌∙◌, ◌+◌, ◌++◌, ◌∷◌, [], append_assoc, append-nil, drop, get_or, subst, sym, take, true}
use Rattle.std.proofs.KnownBytes.{Appends-nil, Appends-trans}
use Rattle.std.proofs.lemmas.List.{take_all}
use Rattle.model.specs.TextLines.{lines_from}
use Rattle.model.proofs.Written.{front_after}
use Rattle.word_mon.specs.Attended.{ServesLines, ServesSome, prompt_of}
use Rattle.word_mon.specs.Pieces.{BreaksBytes, GoesOn}
use Rattle.word_mon.proofs.Pieces.{around, if_err_anyway, one_taken, some_more}
use Rattle.word_mon.proofs.lines.serve_bytes.Goals as goal

pub loop-byte-init : goal.loop-byte-init
loop-byte-init g c = record {
  fed = (
    [],
    λ told first before s. subst (λ t. GoesOn (prompt_of c.args.prompts) t c.args.begun.now.items first c.args.terminal.now (before ++ []))
        (sym (append-nil told))
        (subst (λ w. GoesOn (prompt_of c.args.prompts) told c.args.begun.now.items first c.args.terminal.now w) (sym (append-nil before)) s),
    λ _. Appends-nil _,
  );
  written = λ empty. empty;
}

pub loop-byte-preserved : goal.loop-byte-preserved
loop-byte-preserved g c =
    let i = c.loop-byte.byte-index in
    let bytes = c.args.bytes.now in
    let prompt = prompt_of c.args.prompts in
    let inv = c.loop-byte.invariant.fed in
    let fed = rw c.if-branch.false at c.in_ok-serve_byte.ensures.fed in
    let kept = c.serve_byte.new.begun.items in
    let last = c.serve_byte.new.terminal in
    record {
      fed = (
        inv.0 ++ fed.0,
        λ told first before s. subst (λ t. GoesOn prompt t kept first last (before ++ (inv.0 ++ fed.0)))
            (append_assoc told (take i bytes) (get_or bytes i 0 ∷ []) ∙ one_taken told bytes i c.loop-byte-test.true)
            (subst (λ w. GoesOn prompt ((told ++ take i bytes) ++ get_or bytes i 0 ∷ []) kept first last w) (append_assoc before inv.0 fed.0)
            (fed.1 (told ++ take i bytes) first (before ++ inv.0) (inv.1 told first before s))),
        λ empty. Appends-trans _ _ _ inv.0 fed.0 (inv.2 empty) (fed.2 (c.loop-byte.invariant.written empty)),
      );
      written = λ empty. c.in_ok-serve_byte.ensures.written (c.loop-byte.invariant.written empty);
    }

pub returns-then-branch-clause-fed : goal.returns-then-branch-clause-fed
returns-then-branch-clause-fed g c =
    let i = c.loop-byte.byte-index in
    let bytes = c.args.bytes.now in
    let prompt = prompt_of c.args.prompts in
    let inv = c.loop-byte.invariant.fed in
    let over = rw c.if-branch.true at c.in_ok-serve_byte.ensures.fed in
    let last = c.serve_byte.new.terminal in (
      inv.0 ++ over.0,
      λ told first before s ending rest. subst (λ l. ServesLines prompt (lines_from ending [] l) true first last (before ++ (inv.0 ++ over.0)))
          (around told bytes rest i c.loop-byte-test.true)
          (subst (λ w. ServesLines prompt (lines_from ending [] (((told ++ take i bytes) ++ get_or bytes i 0 ∷ []) ++ (drop (i + 1) bytes ++ rest)))
          true first last w) (append_assoc before inv.0 over.0)
          (over.1 (told ++ take i bytes) first (before ++ inv.0) (inv.1 told first before s) ending (drop (i + 1) bytes ++ rest))),
      λ empty. Appends-trans _ _ _ inv.0 over.0 (inv.2 empty) (over.2 (c.loop-byte.invariant.written empty)),
    )

pub returns-clause-fed : goal.returns-clause-fed
returns-clause-fed g c =
    let i = c.loop-byte.byte-index in
    let bytes = c.args.bytes.now in
    let inv = c.loop-byte.invariant.fed in (
      inv.0,
      λ told first before s. subst (λ l. GoesOn (prompt_of c.args.prompts) (told ++ l) c.loop-byte.begun.items first c.loop-byte.terminal
          (before ++ inv.0)) (take_all i bytes c.loop-byte-test.false) (inv.1 told first before s),
      inv.2,
    )

pub returns-in_err-serve_byte-clause-broken : goal.returns-in_err-serve_byte-clause-broken
returns-in_err-serve_byte-clause-broken g c =
    let i = c.loop-byte.byte-index in
    let bytes = c.args.bytes.now in
    let prompt = prompt_of c.args.prompts in
    let inv = c.loop-byte.invariant.fed in
    let broken = c.in_err-serve_byte.ensures.broken in
    let all : BreaksBytes prompt bytes c.args.begun.now.items c.args.terminal.now (g.W.Write.contents c.args.writer.now)
    (g.W.Write.contents c.serve_byte.new.writer) = (
      inv.0 ++ broken.0,
      λ told first before s.
          let front = (told ++ take i bytes) ++ get_or bytes i 0 ∷ [] in
          let b = broken.1 (told ++ take i bytes) first (before ++ inv.0) (inv.1 told first before s) in (
            b.0,
            subst (λ l. ServesSome prompt l first b.0 (before ++ (inv.0 ++ broken.0)))
                (around told bytes [] i c.loop-byte-test.true ∙ append-nil (told ++ bytes))
                (some_more prompt front (drop (i + 1) bytes ++ []) first b.0 (before ++ (inv.0 ++ broken.0))
                (subst (λ w. ServesSome prompt front first b.0 w) (append_assoc before inv.0 broken.0) b.1)),
          ),
      λ empty. front_after _ _ _ inv.0 broken.0 (inv.2 empty) (broken.2 (c.loop-byte.invariant.written empty)),
    ) in
    if_err_anyway _ _ all
