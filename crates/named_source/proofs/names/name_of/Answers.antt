use Rattle.std.proofs.Common.{◌≡◌, ◌∙◌, ◌-◌, ℕ, ℤ, List, Option, option_map, slice_get, slice_index, ap, arith, rules}
use Rattle.std.proofs.lemmas.Grind.{common_steps}
use Rattle.named_source.specs.Names.{name_of}
use Rattle.named_source.proofs.Lookups.{a_name}
use Rattle.named_source.proofs.names.name_of.Goals as goal

pub returns-in_err-name : goal.returns-in_err-name
returns-in_err-name c =
    let index = c.in_ok-index.field-0.now in
    let at : slice_index c.args.table.now c.args.address ≡ index = grind (arith, common_steps) in
    let names : option_map (λ d. d.0) (slice_get c.args.names.now.names (index - 1)) ≡ name_of c.args.names.now.names c.args.address =
    a_name c.args.names.now.names c.args.table.now c.args.address index c.requires (omega arith) at (omega arith) (omega arith) in
    rw c.from_residual-in_err-name.ensures (ap (λ (r : Option (List ℕ × ℤ)). option_map (λ d. d.0) r) c.in_err-name.ensures ∙ names)

pub returns : goal.returns
returns c =
    let index = c.in_ok-index.field-0.now in
    let at : slice_index c.args.table.now c.args.address ≡ index = search rules in
    let names : option_map (λ d. d.0) (slice_get c.args.names.now.names (index - 1)) ≡ name_of c.args.names.now.names c.args.address =
    a_name c.args.names.now.names c.args.table.now c.args.address index c.requires (omega arith) at (omega arith) (omega arith) in
    ap (λ (r : Option (List ℕ × ℤ)). option_map (λ d. d.0) r) c.in_ok-name.ensures ∙ names
