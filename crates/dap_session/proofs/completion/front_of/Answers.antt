use Rattle.std.proofs.Common.{◌≡◌, ◌∙◌, ◌-◌, ℕ, Option, None, Some, arith, refl, sym, take}
use Rattle.std.proofs.lemmas.List.{take_all}
use Rattle.std.specs.Option.{unwrap_or}
use Rattle.dap_session.specs.Completions.{bytes_before}
use Rattle.dap_messages.specs.Counting.{first_column}
use Rattle.dap_messages.specs.declared.counting.Counting.{Counting}
use Rattle.dap_session.proofs.completion.front_of.Goals as goal

-- no byte stands before the column 0
before : (counting : Counting) (column : Option ℕ) → unwrap_or column 0 - first_column counting ≡ bytes_before counting column
before counting (Some column) = refl
before counting None = omega arith

pub returns-then-count-text : goal.returns-then-count-text
returns-then-count-text c =
    let column = c.unwrap_or-column.ensures in
    let count = c.saturating_sub-count.ensures ∙ (λ i. column i - c.first_column.ensures i) ∙ before c.args.counting c.args.column in
    let text = c.as_bytes-text.ensures.value in
    λ i. take (count i) (text i)

pub returns-else-count-text : goal.returns-else-count-text
returns-else-count-text c =
    let column = c.unwrap_or-column.ensures in
    let count = c.saturating_sub-count.ensures ∙ (λ i. column i - c.first_column.ensures i) ∙ before c.args.counting c.args.column in
    let text = c.as_bytes-text.ensures.value in
    sym (take_all c.saturating_sub-count.result c.as_bytes-text.result.now (omega (arith, c.if-count-text.false))) ∙ (λ i. take (count i) (text i))
