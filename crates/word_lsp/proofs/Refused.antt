-- Words that are refused begin no session.
use Rattle.std.proofs.Common.{◌≡◌, ◌≢◌, ◌≤◌, ℕ, [], List, None, Option, Some, arith, inl, inr, refl, subst, sym}
use Rattle.std.proofs.KnownBytes.{Appends-nil}
use Rattle.arguments.specs.Words.{Fits, IsRefusalOf, IsStatusOf}
use Rattle.arguments.specs.declared.fault.WordsFault.{WordsFault}
use Rattle.arguments.specs.declared.fault.WordsFault.TheVariants.{Help, OutOfMemory, Usage, Value, Wrong}
use Rattle.clap.specs.Words.{IsAmong, Text, kind_of}
use Rattle.clap.specs.declared.error.kind.ErrorKind.TheVariants as kind
use Rattle.word_lsp.specs.CommandLine.{LspAsked, lsp_app, lsp_asked}
use Rattle.word_lsp.specs.Sessions.{Answers, IsCut, IsServed, map_for}
use Rattle.word_lsp.specs.State.{start}
use Rattle.json_messages.proofs.Sessions.{unserved}
use Rattle.json_messages.specs.declared.fault.StreamFault.TheVariants as faults
use Rattle.model.specs.State.{Map}

-- memory ran out before anything was read
cut_at_once : (bus_map : Map) (given before after : Option (List ℕ)) → after ≡ before → IsCut bus_map given given faults.OutOfMemory before after
cut_at_once bus_map given before after kept =
    subst (λ (o : Option (List ℕ)). IsCut bus_map given given faults.OutOfMemory before o) (sym kept)
    ([], ([], start, [], [], unserved (Answers bus_map) given start, inl (tt, refl), refl), Appends-nil before)

-- words that ask for a session, where memory ran out for them
pub cut_early : (words : List Text) (fault : WordsFault) (status : ℕ) (a : LspAsked) (given before after : Option (List ℕ))
    → IsRefusalOf lsp_app words (lsp_asked words ≡ None) fault → IsStatusOf fault status
    → lsp_asked words ≡ Some a → Fits lsp_app words → status ≢ 2 → (1 ≤ status → status ≤ 3 → after ≡ before)
    → IsServed (map_for a) given given status before after
cut_early words (Help text) status a given before after is said asked fits other kept = absurd (subst (IsAmong kind.DisplayHelp) fits is.1)
cut_early words (Usage text) status a given before after is said asked fits other kept = absurd (subst (IsAmong (kind_of text)) fits is.1)
cut_early words Value status a given before after is said asked fits other kept = absurd (other said)
cut_early words (Wrong which) status a given before after is said asked fits other kept = absurd (other said)
cut_early words OutOfMemory status a given before after is said asked fits other kept =
    inr (faults.OutOfMemory, said, cut_at_once (map_for a) given before after (kept (omega (arith, said)) (omega (arith, said))))
