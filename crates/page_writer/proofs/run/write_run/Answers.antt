use Rattle.std.proofs.Common.{◌++◌, ◌<◌, List, ℕ, get_or, refl, subst}
use Rattle.console.specs.Playing.{begun}
use Rattle.page_writer.specs.Steps.{steps_of}
use Rattle.page_writer.proofs.Recording.{whole_data}
use Rattle.page_writer.proofs.Sending.{all_sent}
use Rattle.page_writer.proofs.run.write_run.Goals as goal

pub returns : goal.returns
returns g c =
    let s = c.args.session.now in
    let first = c.in_ok-pending.pending.items in
    let run = c.in_ok-played.ensures in
    let small = subst (λ (l : List ℕ). (k : ℕ) → get_or l k 0 < 256) c.as_slice.ensures.value c.has_bytes.ensures in
    let all = all_sent _ _ _ (first ++ run.1) c.record_run.new.pending.items run.4 small c.in_ok-send_rest.ensures.sent in (
      run.0,
      first ++ run.1,
      run.2,
      whole_data s.current (steps_of c.args.until c.args.limit (begun s c.args.written c.args.input.now)) first run.1 (first ++ run.1)
          c.in_ok-pending.ensures.bytes refl c.in_ok-pending.ensures.told run.3,
      all.1,
      all.0,
    )
