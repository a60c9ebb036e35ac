-- The trail of a session: how much of it there is, and what one step of it is.
use Rattle.std.specs.Prelude.{◌≡◌, ◌+◌, ◌/◌, ◌<◌, ◌≤◌, [], ◌∷◌, ◌++◌, drop, length}
use Rattle.model.specs.State.{State}
use Rattle.model.specs.Checkpoint.{Checkpoint}
use Rattle.model.specs.Session.{keep_last}
use Rattle.debugger.specs.Replay.{IsHistory, held_states}
use Rattle.debugger.specs.declared.trail.Trail.{Trail}

-- There is room for an event more, and for the checkpoint that it may need.
pub record HasRoom (t : Trail) : Type 0 where
  pub history : t.history ≤ 1048576
  pub held : t.held ≤ t.history
  pub few : t.held ≤ length t.events.items
  pub recent : length t.events.items < t.held + 1024
  pub count : length t.kept.items ≡ length t.events.items / 1024 + 1
  pub pool : length t.kept.items + length t.spare.items ≡ t.history / 1024 + 2
  pub kept_room : t.kept.capacity ≡ t.history / 1024 + 2
  pub spare_room : t.spare.capacity ≡ t.history / 1024 + 2
  pub event_room : t.events.capacity ≡ t.history + 1024

-- an event was noted
pub record IsNoted (old new : Trail) (before now : State) : Type 0 where
  pub history : IsHistory 1024 new.kept.items new.events.items now
  pub states : held_states new.held new.kept.items new.events.items now ≡ keep_last old.history
      (held_states old.held old.kept.items old.events.items before ++ before ∷ [])

-- trails that differ in their lists alone
pub record SameRoom (old new : Trail) : Type 0 where
  pub kept : new.kept.capacity ≡ old.kept.capacity
  pub spare : new.spare.capacity ≡ old.spare.capacity
  pub events : new.events.capacity ≡ old.events.capacity
  pub held : new.held ≡ old.held
  pub history : new.history ≡ old.history

-- the oldest part was let go
pub record DropsOldest (old new : Trail) : Type 0 where
  pub events : new.events.items ≡ drop 1024 old.events.items
  pub kept : new.kept.items ≡ drop 1 old.kept.items
  pub spare : length new.spare.items ≡ length old.spare.items + 1
  pub room : SameRoom old new

-- a checkpoint was put after the others
pub record SavesCheckpoint (old new : Trail) (c : Checkpoint) : Type 0 where
  pub events : new.events.items ≡ old.events.items
  pub kept : new.kept.items ≡ old.kept.items ++ c ∷ []
  pub spare : length new.spare.items + 1 ≡ length old.spare.items
  pub room : SameRoom old new
