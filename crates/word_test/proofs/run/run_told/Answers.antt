use Rattle.std.proofs.Common.{◌∙◌, ap, ap₂, ℕ, List, map, subst}
use Rattle.std.specs.Borrow.{Bor}
use Rattle.std.specs.Io.KnownBytes.{Appends}
use Rattle.model.specs.Writers.{AppendsFront}
use Rattle.model.proofs.Written.{front_none}
use Rattle.t65_reports.specs.Telling.{end_text}
use Rattle.t65_suites.specs.Suites.{suite_view, suites_of}
use Rattle.word_test.specs.Views.{test_view}
use Rattle.t65_suites.specs.declared.suites.Suite.{Suite}
use Rattle.word_test.proofs.Facts.{all_told, front_of_first, front_of_plan, front_of_suites, nothing_told, stopped}
use Rattle.word_test.proofs.run.run_told.Goals as goal

pub returns-in_err-suites : goal.returns-in_err-suites
returns-in_err-suites g c = stopped _ _ _ c.from_residual.ensures.0 (nothing_told (test_view c.args.words.now) _)

pub returns-in_err-write_text : goal.returns-in_err-write_text
returns-in_err-write_text g c =
    let old = g.O.Write.contents c.args.output.now in
    let begun = g.O.Write.contents c.write_text.new.output in
    stopped _ _ _ c.from_residual-in_err-write_text.ensures.0
    (front_of_first (test_view c.args.words.now) old begun
    (subst (AppendsFront old begun) (c.as_bytes.ensures.value ∙ c.begin_text.ensures) c.in_err-write_text.ensures))

pub returns-in_err-count : goal.returns-in_err-count
returns-in_err-count g c =
    let old = g.O.Write.contents c.args.output.now in
    let begun = g.O.Write.contents c.write_text.new.output in
    let ran = g.O.Write.contents c.run_suites.new.output in
    stopped _ _ _ c.from_residual-in_err-count.ensures.0 (front_of_suites (test_view c.args.words.now) _ old begun ran
    (ap (λ (s : List Suite). map suite_view s) c.deref-3.ensures.value ∙ (c.in_ok-suites.ensures
    ∙ ap₂ (λ (s f : List (Bor (List ℕ))). suites_of (test_view c.args.words.now).reading (map (λ x. x.now) s) (map (λ x. x.now) f))
    c.deref-2.ensures.value c.deref.ensures.value))
    (subst (Appends old begun) (c.as_bytes.ensures.value ∙ c.begin_text.ensures) c.in_ok-write_text.ensures)
    c.in_err-count.ensures)

pub returns-in_err-end : goal.returns-in_err-end
returns-in_err-end g c =
    let old = g.O.Write.contents c.args.output.now in
    let begun = g.O.Write.contents c.write_text.new.output in
    let ran = g.O.Write.contents c.run_suites.new.output in
    stopped _ _ _ c.from_residual-in_err-end.ensures.0 (front_of_plan (test_view c.args.words.now) _ old begun ran ran c.in_ok-count.count
    c.in_ok-count.all_pass
    (ap (λ (s : List Suite). map suite_view s) c.deref-3.ensures.value ∙ (c.in_ok-suites.ensures
    ∙ ap₂ (λ (s f : List (Bor (List ℕ))). suites_of (test_view c.args.words.now).reading (map (λ x. x.now) s) (map (λ x. x.now) f))
    c.deref-2.ensures.value c.deref.ensures.value))
    (subst (Appends old begun) (c.as_bytes.ensures.value ∙ c.begin_text.ensures) c.in_ok-write_text.ensures)
    c.in_ok-count.ensures (front_none ran (end_text (test_view c.args.words.now).telling c.in_ok-count.count)))

pub returns-in_err-write_text-2 : goal.returns-in_err-write_text-2
returns-in_err-write_text-2 g c =
    let old = g.O.Write.contents c.args.output.now in
    let begun = g.O.Write.contents c.write_text.new.output in
    let ran = g.O.Write.contents c.run_suites.new.output in
    let new = g.O.Write.contents c.write_text-2.new.output in
    stopped _ _ _ c.from_residual-in_err-write_text-2.ensures.0
    (front_of_plan (test_view c.args.words.now) _ old begun ran new c.in_ok-count.count c.in_ok-count.all_pass
    (ap (λ (s : List Suite). map suite_view s) c.deref-3.ensures.value ∙ (c.in_ok-suites.ensures
    ∙ ap₂ (λ (s f : List (Bor (List ℕ))). suites_of (test_view c.args.words.now).reading (map (λ x. x.now) s) (map (λ x. x.now) f))
    c.deref-2.ensures.value c.deref.ensures.value))
    (subst (Appends old begun) (c.as_bytes.ensures.value ∙ c.begin_text.ensures) c.in_ok-write_text.ensures)
    c.in_ok-count.ensures (subst (AppendsFront ran new) (c.as_bytes-2.ensures.value ∙ c.in_ok-end.ensures) c.in_err-write_text-2.ensures))

pub returns : goal.returns
returns g c =
    let old = g.O.Write.contents c.args.output.now in
    let begun = g.O.Write.contents c.write_text.new.output in
    let ran = g.O.Write.contents c.run_suites.new.output in
    let new = g.O.Write.contents c.write_text-2.new.output in
    all_told (test_view c.args.words.now) _ old begun ran new c.in_ok-count.count c.in_ok-count.all_pass
    (ap (λ (s : List Suite). map suite_view s) c.deref-3.ensures.value ∙ (c.in_ok-suites.ensures
    ∙ ap₂ (λ (s f : List (Bor (List ℕ))). suites_of (test_view c.args.words.now).reading (map (λ x. x.now) s) (map (λ x. x.now) f))
    c.deref-2.ensures.value c.deref.ensures.value))
    (subst (Appends old begun) (c.as_bytes.ensures.value ∙ c.begin_text.ensures) c.in_ok-write_text.ensures)
    c.in_ok-count.ensures
    (subst (Appends ran new) (c.as_bytes-2.ensures.value ∙ c.in_ok-end.ensures) c.in_ok-write_text-2.ensures)
