use Rattle.std.proofs.Common.{◌+◌, ◌<◌, length, refl, arith}
use Rattle.std.proofs.lemmas.Grind.{common_steps}
use Rattle.listing.proofs.Groups.{goes_on, kept_on}
use Rattle.listing.proofs.rows.push_groups.Goals as goal

pub overflow_add-at : goal.overflow_add-at
overflow_add-at c =
    let some : 0 < length c.loop-rest.rest.now = grind (arith, common_steps) in
    omega (arith, c.loop-rest.invariant.room some)

pub loop-rest-preserved : goal.loop-rest-preserved
loop-rest-preserved c =
    let some : 0 < length c.loop-rest.rest.now = grind (arith, common_steps) in
    record {
      same = goes_on c.loop-rest.out.items c.push_group.new.out.items c.loop-rest.at (c.loop-rest.at + 3) c.loop-rest.rest.now c.split_at.result.0.now
          c.split_at.result.1.now _ some c.loop-rest.invariant.same (grind (arith, common_steps)) (grind (arith, common_steps)) refl
          c.in_ok-push_group.ensures.rows;
      kept = kept_on c.args.out.now.items c.loop-rest.out.items c.push_group.new.out.items c.loop-rest.invariant.kept c.push_group.ensures.kept;
      room = λ more. omega (arith, more, c.split_at.ensures.back_len, c.split_at.ensures.front_len, c.min.ensures, c.loop-rest.invariant.room some);
    }
