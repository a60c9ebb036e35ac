use Rattle.std.proofs.Common.{◌≡◌, ◌∙◌, ℕ, ℤ, List, Option, option_map, sym, ap, arith}
use Rattle.std.specs.Borrow.{Bor}
use Rattle.fault_notes.specs.Near.{is_near}
use Rattle.t65_failures.proofs.NearNames.{name_of, near_here, near_later, none_near, there}
use Rattle.t65_failures.proofs.faulty.near_name.Goals as goal

-- A definition, as it is read.
abbrev entry_of : Option (Bor (List ℕ) × ℤ) → Option (List ℕ × ℤ)
entry_of entry = option_map (λ e. (e.0.now, e.1)) entry

pub returns-in_default : goal.returns-in_default
returns-in_default c =
    absurd (there c.args.names.now.names c.loop-index.index (omega arith) (sym c.symbol.ensures ∙ ap entry_of c.in_default.is))

pub returns-then-is_near : goal.returns-then-is_near
returns-then-is_near c =
    near_here (λ (name : List ℕ). is_near name c.args.word.now) c.args.names.now.names c.loop-index.index c.in-Some.name.now _
    (ap name_of (sym c.symbol.ensures ∙ ap entry_of c.in-Some.is)) (sym c.is_near.ensures ∙ c.if-is_near.true) c.loop-index.invariant

pub loop-index-preserved : goal.loop-index-preserved
loop-index-preserved c =
    near_later (λ (name : List ℕ). is_near name c.args.word.now) c.args.names.now.names c.loop-index.index c.in-Some.name.now _
    (ap name_of (sym c.symbol.ensures ∙ ap entry_of c.in-Some.is)) (sym c.is_near.ensures ∙ c.if-is_near.false) c.loop-index.invariant

pub returns : goal.returns
returns c = none_near (λ (name : List ℕ). is_near name c.args.word.now) c.args.names.now.names c.loop-index.index _ (omega arith) c.loop-index.invariant
