-- The words of the table, one after another.
use Rattle.std.proofs.Common.{◌≡◌, refl}
use Rattle.mon_line_parts.specs.Topics.{place_of}
use Rattle.mon_line_parts.specs.declared.topic.Topic.{Topic}
use Rattle.mon_line_parts.specs.declared.topic.Topic.TheVariants as topic
use Rattle.mon_line_parts.specs.contracts.topic.Topic.{the_type as topic_type}
use denote.Enum.Declared.{tag_of}

pub place_is : (t : Topic) → tag_of topic_type t ≡ place_of t
place_is topic.Step = refl
place_is topic.Over = refl
place_is topic.Out = refl
place_is topic.Until = refl
place_is topic.Go = refl
place_is topic.Back = refl
place_is topic.Rback = refl
place_is topic.Redo = refl
place_is topic.Where = refl
place_is topic.History = refl
place_is topic.Break = refl
place_is topic.Watch = refl
place_is topic.List = refl
place_is topic.Delete = refl
place_is topic.Regs = refl
place_is topic.Flags = refl
place_is topic.Mem = refl
place_is topic.Dis = refl
place_is topic.Find = refl
place_is topic.Stack = refl
place_is topic.Set = refl
place_is topic.Put = refl
place_is topic.Asm = refl
place_is topic.«Type» = refl
place_is topic.Screen = refl
place_is topic.Irq = refl
place_is topic.Nmi = refl
place_is topic.Reset = refl
place_is topic.Help = refl
place_is topic.Quit = refl
place_is topic.Trace = refl
place_is topic.Display = refl
place_is topic.Undisplay = refl
place_is topic.Save = refl
place_is topic.Reload = refl
place_is topic.Page = refl
place_is topic.Line = refl
place_is topic.Locals = refl
