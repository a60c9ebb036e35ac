use Rattle.std.proofs.Common.{◌≡◌, ◌<◌, length, arith, refl}
use Rattle.std.specs.Prelude.{slice_index}
use Rattle.std.proofs.lemmas.List.{get_or_read}
use Rattle.reached.specs.Search.{seen_of}
use Rattle.reached.proofs.Searching.{nothing, began, went}
use Rattle.reached.proofs.search.Search.explore.Goals as goal

pub loop-start-init : goal.loop-start-init
loop-start-init c =
    nothing c.args.profile c.args.cells.now c.args.marks.now c.args.routines.now c.args.starts.now (seen_of c.args.self.now) c.requires.flags c.requires.found

pub loop-start-preserved : goal.loop-start-preserved
loop-start-preserved c =
    began c.args.profile c.args.cells.now c.args.marks.now c.args.routines.now c.args.starts.now (seen_of c.loop-start.self) (seen_of c.find.new.self)
    c.loop-start.start-index _ c.loop-start.invariant (omega arith) refl c.find.ensures.small c.in_ok-find.ensures.found

pub loop-at-preserved : goal.loop-at-preserved
loop-at-preserved c =
    let inside : c.loop-at.at < length c.loop-at.self.found.items = omega (arith, c.loop-at-test.true, c.len.ensures, c.loop-at.self.found.ok.0) in
    let here : c.index.result.now ≡ slice_index c.loop-at.self.found.items c.loop-at.at = get_or_read c.loop-at.self.found.items _ _ inside c.index.ensures 0 in
    went c.args.profile c.args.cells.now c.args.marks.now c.args.routines.now c.args.starts.now (length c.args.starts.now) c.loop-at.at
    c.index.result.now c.ways_at-ways.result (seen_of c.loop-at.self) (seen_of c.find-in-loop-at.new.self) (seen_of c.find-in-loop-at-2.new.self)
    c.loop-at.invariant inside here c.ways_at-ways.ensures c.find-in-loop-at.ensures.small c.find-in-loop-at-2.ensures.small
    c.in_ok-find-2.ensures.found c.in_ok-find-3.ensures.found
