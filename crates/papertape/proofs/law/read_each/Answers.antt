use Rattle.std.proofs.Common.{◌∙◌, map, ap, drop, ◌+◌, Bor, List, ℕ, []}
use Rattle.std.specs.List.{concat}
use Rattle.papertape.specs.Feeding.{Fed, end_of_feeding, fed, nothing_fed}
use Rattle.papertape.proofs.Answers.{answers_fault}
use Rattle.papertape.proofs.Pieces.{each_next, said_fault, failed_on}
use Rattle.papertape.proofs.law.read_each.Goals as goal

pub returns-in_err-feed : goal.returns-in_err-feed
returns-in_err-feed c =
    let pieces = c.args.pieces.now in
    let i = c.loop-piece.piece-index in
    let now = λ (piece : Bor (List ℕ)). piece.now in
    let next = each_next now pieces i (record { ref_ptr = (0, 0); now = [] }) c.loop-piece.reader (concat (map now pieces)) c.loop-piece-test.true
    c.loop-piece.invariant in
    let fault = said_fault c.feed.new.self c.in_err-feed.field-0.0 c.in_err-feed.ensures.answer in
    answers_fault (end_of_feeding (fed nothing_fed (concat (map now pieces)))) c.from_residual-in_err-feed.result c.in_err-feed.field-0.0
    c.from_residual-in_err-feed.ensures.1
    (failed_on c.feed.new.self c.in_err-feed.field-0.0 (concat (map now (drop (i + 1) pieces))) (fed nothing_fed (concat (map now pieces))) fault
    (ap (λ (s : Fed). fed s (concat (map now (drop (i + 1) pieces)))) c.in_err-feed.ensures.after ∙ next))

pub loop-piece-preserved : goal.loop-piece-preserved
loop-piece-preserved c =
    let pieces = c.args.pieces.now in
    let i = c.loop-piece.piece-index in
    let now = λ (piece : Bor (List ℕ)). piece.now in
    let next = each_next now pieces i (record { ref_ptr = (0, 0); now = [] }) c.loop-piece.reader (concat (map now pieces)) c.loop-piece-test.true
    c.loop-piece.invariant in
    ap (λ (s : Fed). fed s (concat (map now (drop (i + 1) pieces)))) c.feed.ensures.after ∙ next
