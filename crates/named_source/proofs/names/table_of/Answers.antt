use Rattle.std.proofs.Common.{arith, sym, ap, ◌∙◌, ℕ, ℤ, List, Option, option_map, slice_index, rules}
use Rattle.std.proofs.lemmas.Int.{to_z-of_z}
use Rattle.std.specs.Int.{w32}
use mir.Val.{SFits}
use Rattle.named_source.specs.Names.{noted}
use Rattle.named_source.proofs.Tables.{fills_none, fills_more, filled, is_there}
use Rattle.std.specs.Borrow.{Bor}
use Rattle.named_source.proofs.names.table_of.Goals.{in-Some, in_default}
use Rattle.named_source.proofs.names.table_of.Goals as goal

-- a definition, as it is read
abbrev entry_of : Option (Bor (List ℕ) × ℤ) → Option (List ℕ × ℤ)
entry_of r = option_map (λ p. (p.0.now, p.1)) r

pub loop-index-init : goal.loop-index-init
loop-index-init c = fills_none c.args.names.now.names c.in_ok-table.table.items c.in_ok-table.ensures.size c.in_ok-table.ensures.none

pub loop-index-preserved : goal.loop-index-preserved
loop-index-preserved c = elim c.match-symbol.branch [
  | in-Some w ↦ let fits : SFits w32 w.in-Some.number = search rules in
      rw w.table-is (fills_more c.args.names.now.names c.loop-index.table.items w.note.new.table.items c.loop-index.index (w.in-Some.name.now, w.in-Some.number)
      (sym c.symbol.ensures ∙ ap entry_of w.in-Some.is) c.loop-index.invariant w.note.ensures.size
      (λ a h. w.note.ensures.each a h ∙ ap (λ (z : ℤ). noted c.loop-index.index (w.in-Some.name.now, z) a
      (slice_index c.loop-index.table.items a)) (to_z-of_z w32 w.in-Some.number fits)))
  | in_default w ↦ absurd (is_there c.args.names.now.names c.loop-index.index (omega arith) (sym c.symbol.ensures ∙ ap entry_of w.in_default.is))
]

pub returns : goal.returns
returns c = filled c.args.names.now.names c.loop-index.table.items c.loop-index.index (omega arith) c.loop-index.invariant
