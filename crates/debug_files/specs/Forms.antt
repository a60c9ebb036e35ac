-- What a file of debug information says: its first bytes tell whether it is a debug file of ld65, a
-- listing of 64tass or a report of ACME. Source: mos65.
use Rattle.std.specs.Prelude.{ℕ, if◌then◌else◌, List, codes, Result}
use Rattle.debug_listings.specs.Lines.{begins}
use Rattle.debug_listings.specs.Texts.{is_listing, is_report, listing_info, report_info}
use Rattle.debug_records.specs.Info.{Info}
use Rattle.debug_records.specs.Reading.{at_start, debug_info}
use Rattle.debug_records.specs.declared.fault.DebugFault.{DebugFault}
use Rattle.debug_records.specs.declared.fault.DebugFaultKind.TheVariants.{NoForm}

unfoldable pub info_of : List ℕ → Result Info DebugFault
info_of text = if begins text (codes "version\t") then debug_info text
    else if is_listing text then listing_info text
    else if is_report text then report_info text
    else at_start NoForm
