use Rattle.std.proofs.Common.{◌≡◌, ◌++◌, drop}
use Rattle.std.specs.Prelude.{OnOk}
use Rattle.mon_settings.specs.StopLines.{KeepsPast, all_deleted, standing_of}
use Rattle.mon_settings.specs.StopTexts.{all_deleted_text}
use Rattle.mon_settings.proofs.deleting.delete.Given as goal

abbrev pub invariant-loop-address : goal.invariant-loop-address
invariant-loop-address l = record {
  standing : all_deleted l.addresses (standing_of l.fn.mon)
      ≡ all_deleted (drop l.address-index l.addresses) (standing_of l.mon);
  kept : KeepsPast l.fn.mon l.mon;
  text : OnOk l.said (l.mon.text.items
      ++ all_deleted_text l.fn.mon.places.names (drop l.address-index l.addresses) (standing_of l.mon)
      ≡ l.fn.mon.text.items ++ all_deleted_text l.fn.mon.places.names l.addresses (standing_of l.fn.mon));
}
