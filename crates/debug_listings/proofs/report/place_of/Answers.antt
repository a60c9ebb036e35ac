use Rattle.std.proofs.Common.{◌∙◌}
use Rattle.std.specs.Option.{option_map}
use Rattle.debug_records.specs.Views.{file_view}
use Rattle.debug_listings.specs.Report.{is_named}
use Rattle.debug_listings.proofs.Names.{position_seen}
use Rattle.debug_listings.proofs.report.place_of.Goals as goal

pub returns : goal.returns
returns c = c.held_at.ensures ∙ position_seen (option_map file_view) (is_named c.args.name.now) c.args.files.now
