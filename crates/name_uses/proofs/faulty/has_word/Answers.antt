use Rattle.std.proofs.Common.{◌≡◌, ◌∙◌, ◌&&◌, ◌-◌, List, ap, arith, drop, false, length, not, refl, sym, take, true, ℕ}
use Rattle.std.specs.Str.{bytes_eq}
use Rattle.model.specs.AllFaults.{word_at}
use Rattle.name_uses.proofs.FaultySteps.{word_end, word_found, word_step}
use Rattle.name_uses.proofs.faulty.has_word.Goals.{else-not-behind-via-then-not-behind+else-eq, else-not-behind-via-else-not-behind}
use Rattle.name_uses.proofs.faulty.has_word.Goals as goal

pub returns-then-eq : goal.returns-then-eq
returns-then-eq c =
    let s = c.args.line.now in
    let i = c.loop-index.index in
    let is : (not c.loop-index.behind && bytes_eq (word_at (take (length s - i) (drop i s))) c.args.word.now) ≡ true =
    rw c.if-not-behind.true (ap (λ (w : List ℕ). bytes_eq w c.args.word.now) (sym c.word_at.ensures) ∙ sym c.eq.ensures ∙ c.if-eq.true) in
    sym (c.loop-index.invariant ∙ word_found c.args.word.now s i c.loop-index.behind c.loop-index-test.true is)

pub loop-index-preserved : goal.loop-index-preserved
loop-index-preserved c =
    let s = c.args.line.now in
    let i = c.loop-index.index in
    let is : (not c.loop-index.behind && bytes_eq (word_at (take (length s - i) (drop i s))) c.args.word.now) ≡ false = elim c.else-not-behind.branch [
      | else-not-behind-via-then-not-behind+else-eq w ↦ rw w.if-not-behind.true
          (ap (λ (v : List ℕ). bytes_eq v c.args.word.now) (sym w.word_at.ensures) ∙ sym w.eq.ensures ∙ w.if-eq.false)
      | else-not-behind-via-else-not-behind w ↦ rw w.if-not-behind.false refl
    ] in
    rw c.may_be_in_word-behind.ensures (c.loop-index.invariant ∙ word_step c.args.word.now s i c.loop-index.behind c.loop-index-test.true is)

pub returns : goal.returns
returns c = sym (c.loop-index.invariant ∙ word_end c.args.word.now c.args.line.now c.loop-index.index c.loop-index.behind
    (omega (arith, c.loop-index-test.false)))
