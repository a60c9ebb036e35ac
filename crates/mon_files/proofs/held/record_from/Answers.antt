use Rattle.std.proofs.Common.{◌∙◌, ◌++◌, ap, refl}
use Rattle.mon_files.proofs.Again.{holds}
use Rattle.mon_files.proofs.held.record_from.Goals as goal

pub returns-clause-told : goal.returns-clause-told
returns-clause-told c = λ none room.
    let start = c.args.mon.now.session.current in
    holds start c.record_each.new.mon.session c.in_ok-bytes.bytes.items c.in_ok-records.records.items c.extend_from_slice.new.self.items
    c.in_ok-bytes.ensures.bytes
    (c.in_ok-extend_from_slice.ensures.items ∙ ap (λ l. c.in_ok-bytes.bytes.items ++ l) c.as_slice.ensures.value) c.in_ok-bytes.ensures.told
    (c.in_ok-records.ensures.told start none room refl)
