-- A trail, and steps after it that are only counted.
use Rattle.std.specs.Prelude.{◌≡◌, ℕ, ◌+◌, ◌%◌, ◌<◌, ◌≤◌, min, ◌++◌, length, replicate}
use Rattle.circular_buffer.specs.Buffer.{buffer}
use Rattle.model.specs.declared.event.Event.TheVariants.{Step}
use Rattle.debugger.specs.declared.trail.Trail.{Trail}

-- a trail on which some steps more are noted, without a checkpoint, and with nothing let go
abbrev pub with_steps : Trail → ℕ → Trail
with_steps t n = record {
  events = buffer (t.events.items ++ replicate n Step) t.events.capacity;
  kept = t.kept;
  spare = t.spare;
  held = min (t.held + n) t.history;
  history = t.history;
}

-- After some steps so many more may come, none of which makes a checkpoint or lets the oldest part
-- go.
pub record IsQuiet (t : Trail) (steps more : ℕ) : Type 0 where
  pub few : steps + more ≤ 1024
  pub size : t.history ≤ 1048576
  pub held : t.held ≤ t.history
  pub part : (length t.events.items + steps) % 1024 + more < 1024
  pub room : length t.events.items + steps + more < min (t.held + steps) t.history + 1024
  pub capacity : t.events.capacity ≡ t.history + 1024
