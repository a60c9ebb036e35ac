use Rattle.std.proofs.Common.{◌∙◌, subst, sym}
use Rattle.std.specs.Prelude.{OnOk}
use Rattle.dap_views.specs.Found.{Found, HasFound, found_from}
use Rattle.source_map.specs.Lines.{addresses_of_line, line_from}
use Rattle.dap_views.proofs.listed.push_line.Goals as goal

pub returns-in-Some : goal.returns-in-Some
returns-in-Some c =
    let places = c.args.mon.now.places in
    let pc = c.args.mon.now.session.current.regs.pc in
    let line = c.own_line-line.ensures in
    let file = c.file_number-number.ensures in
    let all = c.as_slice-all.ensures.value ∙ c.in_ok-addresses.ensures ∙ (λ i. addresses_of_line places.sites (file i) (line i)) in
    let moved = sym c.in-Some.is ∙ c.line_from.ensures ∙ (λ i. line_from places.sites (file i) (line i)) in
    subst (λ (f : Found). OnOk c.push_at.result (HasFound f c.args.list.now c.push_at.new.list))
    (λ i. found_from places pc c.args.wanted.now.condition (line i) (all i) (moved i)) c.push_at.ensures

pub returns : goal.returns
returns c =
    let places = c.args.mon.now.places in
    let pc = c.args.mon.now.session.current.regs.pc in
    let line = c.own_line-line.ensures in
    let file = c.file_number-number.ensures in
    let all = c.in_ok-addresses.ensures ∙ (λ i. addresses_of_line places.sites (file i) (line i)) in
    let none = sym c.in-None.is ∙ c.line_from.ensures ∙ (λ i. line_from places.sites (file i) (line i)) in
    subst (λ (f : Found). OnOk c.push_unset.result (HasFound f c.args.list.now c.push_unset.new.list))
    (λ i. found_from places pc c.args.wanted.now.condition (line i) (all i) (none i)) c.push_unset.ensures
