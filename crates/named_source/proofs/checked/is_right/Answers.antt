use Rattle.std.proofs.Common.{◌≡◌, List, Option, ℕ, sym, ◌∙◌, subst, ap}
use Rattle.std.proofs.lemmas.Bool.{false≢true}
use Rattle.model.specs.Source.{Denotes}
use Rattle.model.specs.declared.source_fault.AsmFault.{AsmFault}
use Rattle.named_source.proofs.Carried.{denotes_under}
use Rattle.named_source.proofs.Maps.{spared_without}
use Rattle.named_source.proofs.checked.is_right.Goals as goal

pub returns-in_default-clause-wrong : goal.returns-in_default-clause-wrong
returns-in_default-clause-wrong c wrong s = c.in_default.ensures.none

pub returns-in-Ok-clause-denotes : goal.returns-in-Ok-clause-denotes
returns-in-Ok-clause-denotes c right bus_map same spared =
    let one : c.in-Ok.assembly.image ≡ c.args.image.now = sym c.image.ensures ∙ c.is_same.ensures.same right in
    let here : Denotes c.in-Some.map c.args.source.now c.args.image.now =
    subst (λ (i : List (Option ℕ)). Denotes c.in-Some.map c.args.source.now i) one c.in-Ok.ensures.denoted in
    denotes_under c.bytes_fill_their_size.ensures c.in-Some.map bus_map c.args.source.now c.args.image.now (same ∙ sym c.in-Some.ensures.profile) spared here

pub returns-in-Ok-clause-right : goal.returns-in-Ok-clause-right
returns-in-Ok-clause-right c right =
    let one : c.in-Ok.assembly.image ≡ c.args.image.now = sym c.image.ensures ∙ c.is_same.ensures.same right in
    record {
      bus_map = c.in-Some.map;
      valid = c.is_map.ensures;
      same = c.in-Some.ensures.profile;
      spared = spared_without c.in-Some.map c.args.image.now c.in-Some.ensures.port c.cells.ensures.image;
      denotes = subst (λ (i : List (Option ℕ)). Denotes c.in-Some.map c.args.source.now i) one c.in-Ok.ensures.denoted;
    }

pub returns-in-Ok-clause-wrong : goal.returns-in-Ok-clause-wrong
returns-in-Ok-clause-wrong c wrong s =
    let here : Denotes c.in-Some.map c.args.source.now c.args.image.now =
    denotes_under c.bytes_fill_their_size.ensures s.bus_map c.in-Some.map c.args.source.now c.args.image.now (c.in-Some.ensures.profile ∙ sym s.same)
    (spared_without c.in-Some.map c.args.image.now c.in-Some.ensures.port c.cells.ensures.image) s.denotes in
    let one : c.in-Ok.assembly.image ≡ c.args.image.now = c.in-Ok.ensures.only c.args.image.now here in
    c.is_same.ensures.apart wrong (c.image.ensures ∙ one)

pub returns-in_default-kind-clause-denotes : goal.returns-in_default-kind-clause-denotes
returns-in_default-kind-clause-denotes c right = absurd (false≢true right)

pub returns-in_default-kind-clause-right : goal.returns-in_default-kind-clause-right
returns-in_default-kind-clause-right c right = absurd (false≢true right)

pub returns-in_default-kind-clause-wrong : goal.returns-in_default-kind-clause-wrong
returns-in_default-kind-clause-wrong c wrong s =
    let here : Denotes c.in-Some.map c.args.source.now c.args.image.now =
    denotes_under c.bytes_fill_their_size.ensures s.bus_map c.in-Some.map c.args.source.now c.args.image.now (c.in-Some.ensures.profile ∙ sym s.same)
    (spared_without c.in-Some.map c.args.image.now c.in-Some.ensures.port c.cells.ensures.image) s.denotes in
    c.in_default-kind.not-OutOfMemory (ap (λ (f : AsmFault). f.kind) (c.in-Err.ensures.only c.args.image.now here))
