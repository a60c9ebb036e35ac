use Rattle.std.proofs.Common.{rules}
use Rattle.std.proofs.lemmas.Fn.{filter_same}
use Rattle.mon_settings.specs.Displays.{is_other}
use Rattle.mon_settings.proofs.displays.remove_display.Goals as goal

pub returns : goal.returns
returns c = filter_same _ (is_other c.args.address) _ (λ x b f t. search rules) c.args.displays.now.items c.retain.new.self.items c.retain.ensures.filtered
