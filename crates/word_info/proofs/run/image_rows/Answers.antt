use Rattle.word_info.proofs.run.image_rows.Goals as goal

pub returns : goal.returns
returns c = record {
  facts = c.in_ok-facts.facts;
  are = record {
    ranges = c.in_ok-facts.ensures.ranges;
    checksums = c.in_ok-facts.ensures.checksums;
    regions = c.in_ok-facts.ensures.regions;
    lines = c.in_ok-facts.ensures.lines;
    bytes = c.in_ok-facts.ensures.bytes;
    gap = c.in_ok-facts.ensures.gap;
    page_0 = c.in_ok-facts.ensures.page_0;
    page_1 = c.in_ok-facts.ensures.page_1;
    port_bytes = c.in_ok-facts.ensures.port;
    free = c.in_ok-facts.ensures.free;
    nmi = c.in_ok-facts.ensures.nmi;
    reset = c.in_ok-facts.ensures.reset;
    irq = c.in_ok-facts.ensures.irq;
  };
  rows = c.in_ok-said.ensures;
}
