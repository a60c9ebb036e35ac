use Rattle.std.proofs.Common.{◌≡◌, ◌∙◌, ap, arith, false, sym, take}
use Rattle.std.proofs.lemmas.List.{take_all}
use Rattle.std.proofs.lemmas.List.Folds.{list_any_more}
use Rattle.std.specs.List.{list_any}
use Rattle.std.specs.Prelude.{◌||◌, string_bytes}
use Rattle.std.specs.Str.{bytes_eq}
use Rattle.dap_views.specs.Files.{has_path}
use Rattle.dap_views.proofs.source.file_named.Goals as goal

pub loop-index-preserved : goal.loop-index-preserved
loop-index-preserved g c =
    let path = c.args.path.now in
    let file = c.index-files-index.result in
    let here : bytes_eq path (string_bytes file.path) ≡ false
    = sym (ap (bytes_eq path) c.as_str.ensures.value) ∙ c.is_one_file.ensures c.if-is_one_file.false in
    let other = sym (ap (has_path path) c.index-files-index.is) ∙ here in
    list_any_more (has_path path) c.args.files.now c.loop-index.index file (omega (arith, c.loop-index-test.true))
    ∙ (λ i. c.loop-index.invariant i || other i)

pub returns-then-is_one_file : goal.returns-then-is_one_file
returns-then-is_one_file g c = (omega (arith, c.loop-index-test.true), c.loop-index.invariant)

pub returns : goal.returns
returns g c = sym (ap (list_any (has_path c.args.path.now)) (take_all c.loop-index.index c.args.files.now (omega (arith, c.loop-index-test.false))))
    ∙ c.loop-index.invariant
