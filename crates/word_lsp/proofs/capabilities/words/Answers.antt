use Rattle.std.proofs.Common.{List, arith, subst, sym, ℕ}
use Rattle.std.proofs.lemmas.Simd.{map-map}
use Rattle.std.specs.Borrow.{Bor}
use Rattle.json_messages.specs.Values.{word}
use Rattle.json_messages.proofs.Lists.{all_values, next_value}
use Rattle.json_messages.specs.ValueLists.{HasValues}
use Rattle.serde_json.specs.Data.{Data}
use Rattle.word_lsp.proofs.capabilities.words.Goals as goal

pub loop-text-init : goal.loop-text-init
loop-text-init c = c.new-list.ensures

pub loop-text-preserved : goal.loop-text-preserved
loop-text-preserved c = next_value (λ (s : Bor (List ℕ)). word s.now) c.args.texts.now c.loop-text.text-index _ c.with-list.result
    (omega (arith, c.loop-text-test.true)) (c.with-list.ensures _ _ c.loop-text.invariant c.try_from_str.ensures)

pub returns : goal.returns
returns c =
    let all = all_values (λ (s : Bor (List ℕ)). word s.now) c.args.texts.now c.loop-text.text-index c.loop-text.list
    (omega (arith, c.loop-text-test.false)) c.loop-text.invariant in
    c.build.ensures _ (subst (λ (ds : List Data). HasValues ds c.loop-text.list) (sym (map-map word (λ (s : Bor (List ℕ)). s.now) c.args.texts.now)) all)
