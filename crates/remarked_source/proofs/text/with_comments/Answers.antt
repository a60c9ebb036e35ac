use Rattle.std.proofs.Common.{◌≡◌, ◌∙◌, ℕ, List, Option, refl, sym, subst, ap}
use Rattle.assembler.specs.Assembly.{source_lines}
use Rattle.model.specs.Source.{Denotes}
use Rattle.named_source.specs.NamedText.{IsSourceOf}
use Rattle.named_source.proofs.Chosen.{first_is, second_is}
use Rattle.remarked_source.specs.Rows.{rows_from}
use Rattle.remarked_source.specs.Views.{beside_view}
use Rattle.remarked_source.proofs.text.with_comments.Goals as goal

pub returns-then-branch-clause-text : goal.returns-then-branch-clause-text
returns-then-branch-clause-text c =
    let profile = c.args.profile in
    let image = c.args.image.now in
    let first = rows_from (beside_view c.args.beside) image 0 (source_lines c.in-Ok.assembly) in
    let same : c.in_ok-text.text.items ≡ first = c.in_ok-text.ensures
    ∙ ap (λ (cells : List (Option ℕ)). rows_from (beside_view c.args.beside) cells 0 (source_lines c.in-Ok.assembly)) c.cells.ensures.same in
    record {
      bus_map = c.in-Some.map;
      same = c.in-Some.ensures.profile;
      assembly = c.in-Ok.assembly;
      assembled = c.in-Ok.ensures.assembled;
      source = c.in-Ok.ensures.kept ∙ c.as_slice.ensures.value;
      chosen = first_is profile image first c.args.plain.items c.in_ok-text.text.items same
          (subst (IsSourceOf profile image) c.as_slice-2.ensures.value (c.in_ok-is_right.ensures.right c.if-branch.true));
    }

pub returns-else-branch-clause-text : goal.returns-else-branch-clause-text
returns-else-branch-clause-text c =
    let profile = c.args.profile in
    let image = c.args.image.now in
    let first = rows_from (beside_view c.args.beside) image 0 (source_lines c.in-Ok.assembly) in
    let same : c.in_ok-text.text.items ≡ first = c.in_ok-text.ensures
    ∙ ap (λ (cells : List (Option ℕ)). rows_from (beside_view c.args.beside) cells 0 (source_lines c.in-Ok.assembly)) c.cells.ensures.same in
    record {
      bus_map = c.in-Some.map;
      same = c.in-Some.ensures.profile;
      assembly = c.in-Ok.assembly;
      assembled = c.in-Ok.ensures.assembled;
      source = c.in-Ok.ensures.kept ∙ c.as_slice.ensures.value;
      chosen = second_is profile image first c.args.plain.items c.in_ok-text.text.items c.args.plain.items same
          (λ s. c.in_ok-is_right.ensures.wrong c.if-branch.false (subst (IsSourceOf profile image) (sym c.as_slice-2.ensures.value) s)) refl;
    }

pub returns-then-branch-clause-denotes : goal.returns-then-branch-clause-denotes
returns-then-branch-clause-denotes c = λ plain. λ bus_map same spared.
    subst (λ (t : List ℕ). Denotes bus_map t c.args.image.now) c.as_slice-2.ensures.value
    (c.in_ok-is_right.ensures.denotes c.if-branch.true bus_map same spared)

pub returns-else-branch-clause-denotes : goal.returns-else-branch-clause-denotes
returns-else-branch-clause-denotes c = λ plain. plain
