use Rattle.dap_messages.proofs.reading.launch_of.Goals as goal

pub returns : goal.returns
returns c = λ i. record {
  program = c.in_ok-program.ensures i;
  tape = c.flag_or.ensures i;
  bin = c.in_ok-bin.ensures i;
  prg = c.flag_or-2.ensures i;
  port = c.in_ok-port.ensures i;
  rom = c.in_ok-rom.ensures i;
  profile = c.in_ok-profile.ensures i;
  symbols = c.in_ok-symbols.ensures i;
  debug_info = c.in_ok-debug_info.ensures i;
  source_root = c.in_ok-source_root.ensures i;
  history = c.number_at.ensures i;
  steps = c.number_at-2.ensures i;
  stop_on_entry = c.flag_or-3.ensures i;
}
