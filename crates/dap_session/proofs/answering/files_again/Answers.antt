use Rattle.std.proofs.Common.{◌≡◌, ◌∙◌, suc, List, Option, ap, arith, length, refl, subst}
use Rattle.std.proofs.lemmas.List.{nil_from_length}
use Rattle.std.specs.Vec.Iter.{into_iter_items, into_iter_len, into_iter_steps}
use Rattle.dap_messages.specs.declared.listed.FileLines.{FileLines}
use Rattle.dap_session.proofs.FilesAgain.{begins, ends, goes}
use Rattle.dap_session.proofs.answering.files_again.Goals as goal

pub loop-listed-init : goal.loop-listed-init
loop-listed-init g c =
    let begun = c.into_iter-listed-iterator.result in
    let same : into_iter_items begun ≡ c.args.lists.items = cc in
    let count : into_iter_len begun ≡ length (into_iter_items begun) = cc in
    record {
      set = begins c.args.counting c.args.files.now c.args.lists.items c.args.client.now (into_iter_items begun) same;
      len = count;
      kept = (refl, refl, refl);
      launch = refl;
    }

pub loop-listed-preserved : goal.loop-listed-preserved
loop-listed-preserved g c =
    let so_far = c.loop-listed.invariant in
    let before = c.loop-listed.listed-iterator in
    let left = into_iter_items c.next.new.self in
    let step = subst (λ (o : Option FileLines). into_iter_steps before o c.next.new.self) c.in-Some.is c.next.ensures.steps in
    let all : length (into_iter_items before) ≡ suc (length left) = ap (λ (xs : List FileLines). length xs) step.0 in
    let kept = c.file_again.ensures.kept in
    record {
      set = goes c.args.counting c.args.files.now c.args.lists.items c.args.client.now (into_iter_items before) left c.in-Some.listed
          c.loop-listed.client c.file_again.new.client so_far.set step.0 c.in_ok-file_again.ensures.set;
      len = omega (arith, so_far.len, step.1, all);
      kept = (kept.0 ∙ so_far.kept.0, kept.1 ∙ so_far.kept.1, kept.2 ∙ so_far.kept.2);
      launch = c.file_again.ensures.launch ∙ so_far.launch;
    }

pub returns-clause-set : goal.returns-clause-set
returns-clause-set g c =
    let so_far = c.loop-listed.invariant in
    let left = c.loop-listed.listed-iterator in
    let step = subst (λ (o : Option FileLines). into_iter_steps left o c.next.new.self) c.in-None.is c.next.ensures.steps in
    let none : length (into_iter_items left) ≡ 0 = omega (arith, so_far.len, step.0) in
    ends c.args.counting c.args.files.now c.args.lists.items c.args.client.now (into_iter_items left) c.loop-listed.client so_far.set
    (nil_from_length (into_iter_items left) none)
