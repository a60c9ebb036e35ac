use Rattle.std.proofs.Common.{◌≡◌, ◌∙◌, ◌++◌, [], ap, append-nil, length, refl, rules, sym}
use Rattle.std.proofs.KnownBytes.{Consumes-nil, Consumes-trans}
use Rattle.std.proofs.lemmas.List.{nil_from_length}
use Rattle.json_messages.specs.Messages.{front_of}
use Rattle.json_messages.specs.Taken.{Held}
use Rattle.json_messages.specs.declared.front.Front.TheVariants.{LongHeader, NoLength, Open}
use Rattle.json_messages.proofs.Taking.{counted_more, grown, untaken}
use Rattle.json_messages.proofs.incoming.Incoming.next.Goals as goal

pub loop-init : goal.loop-init
loop-init g c = ([], Consumes-nil _, refl, sym (append-nil c.args.self.now.bytes))

pub loop-preserved : goal.loop-preserved
loop-preserved g c =
    let inv = c.loop.invariant in
    let read = c.in-Ok-true.ensures.read in (
      inv.0 ++ read.0,
      Consumes-trans _ _ _ inv.0 read.0 inv.1 read.1,
      counted_more c.args.self.now.count _ _ inv.0 read.0 inv.2 read.2,
      grown _ _ _ _ _ inv.3 read.3,
    )

pub returns-in-Ok : goal.returns-in-Ok
returns-in-Ok g c =
    let inv = c.loop.invariant in
    record {
      taken = (inv.0, inv.1, c.take.ensures.count ∙ inv.2, rw (← inv.3) c.in-Ok.ensures.taken);
    }

pub returns-in-Err : goal.returns-in-Err
returns-in-Err g c =
    let inv = c.loop.invariant in
    record { taken = (inv.0, inv.1, c.take.ensures.count ∙ inv.2, tt) }

pub returns-in-NoLength : goal.returns-in-NoLength
returns-in-NoLength g c =
    let inv = c.loop.invariant in
    let front : front_of (c.args.self.now.bytes ++ inv.0) ≡ NoLength = ap front_of (sym inv.3) ∙ ap (λ (h : Held). front_of h.bytes) (sym c.self.view_is)
    ∙ ap front_of (sym c.as_slice.ensures.value) ∙ sym c.front_of.ensures ∙ c.in-NoLength.is in
    record { taken = (inv.0, inv.1, inv.2, front) }

pub returns-in-LongHeader : goal.returns-in-LongHeader
returns-in-LongHeader g c =
    let inv = c.loop.invariant in
    let front : front_of (c.args.self.now.bytes ++ inv.0) ≡ LongHeader = ap front_of (sym inv.3) ∙ ap (λ (h : Held). front_of h.bytes) (sym c.self.view_is)
    ∙ ap front_of (sym c.as_slice.ensures.value) ∙ sym c.front_of.ensures ∙ c.in-LongHeader.is in
    record { taken = (inv.0, inv.1, inv.2, front) }

pub returns-in-Ok-false : goal.returns-in-Ok-false
returns-in-Ok-false g c =
    let inv = c.loop.invariant in
    let read = c.in-Ok-false.ensures.read in
    let end = c.in-Ok-false.ensures.end c.in-Ok-false.field-0-test in
    let few : length c.self-in-loop.inside.held.items ≡ 0 = search rules in
    let empty : c.fill.new.self.bytes ≡ [] = sym (ap (λ (h : Held). h.bytes) c.self-in-loop.view_is) ∙ nil_from_length c.self-in-loop.inside.held.items few in
    let none : c.args.self.now.bytes ++ (inv.0 ++ read.0) ≡ [] = sym (grown _ _ _ _ _ inv.3 read.3) ∙ empty in
    record {
      taken = (
        inv.0 ++ read.0,
        Consumes-trans _ _ _ inv.0 read.0 inv.1 read.1,
        counted_more c.args.self.now.count _ _ inv.0 read.0 inv.2 read.2,
        (none, end.1),
      );
    }

pub returns-in-Ok-false-2 : goal.returns-in-Ok-false-2
returns-in-Ok-false-2 g c =
    let inv = c.loop.invariant in
    let read = c.in-Ok-false.ensures.read in
    let end = c.in-Ok-false.ensures.end c.in-Ok-false.field-0-test in
    let before : front_of c.loop.self.bytes ≡ Open = ap (λ (h : Held). front_of h.bytes) (sym c.self.view_is)
    ∙ ap front_of (sym c.as_slice.ensures.value) ∙ sym c.front_of.ensures ∙ c.in-Open.is in
    let all : front_of (c.args.self.now.bytes ++ (inv.0 ++ read.0)) ≡ Open = ap front_of (sym (grown _ _ _ _ _ inv.3 read.3) ∙ end.0) ∙ before in
    record {
      taken = (
        inv.0 ++ read.0,
        Consumes-trans _ _ _ inv.0 read.0 inv.1 read.1,
        counted_more c.args.self.now.count _ _ inv.0 read.0 inv.2 read.2,
        (all, end.1),
      );
    }

pub returns-in-Err-fill : goal.returns-in-Err-fill
returns-in-Err-fill g c =
    let inv = c.loop.invariant in
    let read = c.in-Err-fill.ensures.read in
    record {
      taken = (
        inv.0 ++ read.0,
        Consumes-trans _ _ _ inv.0 read.0 inv.1 read.1,
        counted_more c.args.self.now.count _ _ inv.0 read.0 inv.2 read.2,
        untaken _ _ _ c.in-Err-fill.ensures.fault,
      );
    }

pub returns : goal.returns
returns g c = let inv = c.loop.invariant in record { taken = (inv.0, inv.1, inv.2, tt) }
