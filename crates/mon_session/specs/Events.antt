-- Events that were made, and those after them that were undone. Source: mos65.
use Rattle.std.specs.Prelude.{ℕ, ◌-◌, zero, suc, List, [], ◌∷◌, ◌++◌, length, take, drop, replicate}
use Rattle.circular_buffer.specs.Buffer.{keep_last}
use Rattle.model.specs.declared.event.Event.{Event}
use Rattle.model.specs.declared.event.Event.TheVariants.{Step}

-- The last events that were made, the oldest first; those after them that were undone, the next to
-- be made again first; how many of both are kept.
pub record Kept : Type 0 where
  pub made : List Event
  pub undone : List Event
  pub room : ℕ

-- An event was made. Those that were undone before it are forgotten.
abbrev pub with_event : Event → Kept → Kept
with_event event kept = record kept {
  made = keep_last kept.room (kept.made ++ event ∷ []);
  undone = [];
}

-- So many steps were made.
abbrev pub with_steps : ℕ → Kept → Kept
with_steps zero kept = kept
with_steps (suc n) kept = record kept {
  made = keep_last kept.room (kept.made ++ replicate (suc n) Step);
  undone = [];
}

-- The last so many events were undone.
abbrev pub with_undone : ℕ → Kept → Kept
with_undone count kept = record kept {
  made = take (length kept.made - count) kept.made;
  undone = drop (length kept.made - count) kept.made ++ kept.undone;
}

-- The next of the events that were undone was made again.
abbrev pub with_redone : Kept → Kept
with_redone kept = record kept {
  made = kept.made ++ take 1 kept.undone;
  undone = drop 1 kept.undone;
}
