use Rattle.std.proofs.Common.{◌≡◌, ◌++◌, List, ℕ, drop}
use Rattle.word_trace.specs.Gathered.{findings, gathered, marked, told, with_all_written}
use Rattle.word_trace.proofs.tracer.Tracer.tell_unwritten.Given as goal

abbrev pub invariant-loop-address : goal.invariant-loop-address
invariant-loop-address l = (done : List ℕ) × record {
  written : l.self.written ≡ with_all_written l.fn.self.written done;
  rest : done ++ told l.session.current.bus.map l.self.written (drop l.address-index l.addresses.items)
      ≡ told l.session.current.bus.map l.fn.self.written l.addresses.items;
  text : l.self.sheet.text.items ≡ l.fn.self.sheet.text.items
      ++ findings l.session.current l.fn.self.sites l.moment l.fn.self.all.visits l.part done;
  same : gathered l.self ≡ marked l.self.written (gathered l.fn.self);
}
