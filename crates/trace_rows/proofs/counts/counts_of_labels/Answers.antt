use Rattle.std.proofs.Common.{◌≡◌, ◌∙◌, sym, ap, arith}
use Rattle.accesses.specs.declared.tally.Count.{Count}
use Rattle.trace_rows.specs.Counts.{add_cycles, counts_below}
use Rattle.trace_rows.specs.Sites.{index_at}
use Rattle.trace_rows.proofs.Tables.{next_address}
use Rattle.trace_rows.proofs.counts.counts_of_labels.Goals as goal

pub loop-place-preserved : goal.loop-place-preserved
loop-place-preserved c =
    let sites = c.args.sites.now in
    let tally = c.args.tally.now in
    let place = c.loop-place.place in
    c.add_cycles.ensures
    ∙ ap (λ cs. add_cycles cs c.label_index.result c.at-cycles.result.cycles) c.loop-place.invariant
    ∙ ap (λ ix. add_cycles (counts_below sites tally place) ix c.at-cycles.result.cycles) c.label_index.ensures
    ∙ ap (λ (k : Count). add_cycles (counts_below sites tally place) (index_at sites.label_of.items place) k.cycles) c.at-cycles.ensures
    ∙ sym (next_address sites tally place)

pub returns : goal.returns
returns c =
    let end : c.loop-place.place ≡ 65536 = omega arith in
    c.loop-place.invariant ∙ ap (counts_below c.args.sites.now c.args.tally.now) end
