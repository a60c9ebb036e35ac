use Rattle.std.proofs.Common.{◌≡◌, ◌∙◌, ap, sym, None, arith}
use Rattle.papertape.specs.Feeding.{Fed, fed_up_to}
use Rattle.papertape.proofs.Skipped.{skipped_are_counted}
use Rattle.papertape.proofs.reader.TapeReader.skip.Goals as goal

pub returns-clause-all : goal.returns-clause-all
returns-clause-all c e =
    let none : c.self.inside.failed ≡ None = c.in-None.is in
    skipped_are_counted c.self.inside.failed c.args.limit c.self.inside.offset c.self.inside.reading c.args.bytes.now none
    (c.is_in_record.ensures.apart c.if-is_in_record.false) (omega (arith, c.if-bytes-saturating_sub.false, c.saturating_sub.ensures))
    (sym c.all_are_skipped.ensures ∙ c.if-not-all_are_skipped.false)
    ∙ ap (λ (s : Fed). fed_up_to c.args.limit s c.args.bytes.now) c.self.view_is
