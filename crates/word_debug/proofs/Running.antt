-- What `debug --strict` does, by what a plain `debug` does to a watch.
use Rattle.std.proofs.Common.{◌≡◌, ◌≤◌, inl, inr, ℕ, Bool, List, Err, if◌then◌else◌, None, subst, arith}
use Rattle.arguments.specs.Words.{IsRefusalOf}
use Rattle.arguments.specs.declared.fault.WordsFault.{WordsFault}
use Rattle.arguments.specs.declared.fault.WordsFault.TheVariants.{Help, OutOfMemory as NoMemory, Usage, Value, Wrong}
use Rattle.arguments.specs.declared.refusal.Refusal.TheVariants.{OutOfMemory}
use Rattle.program.specs.Asked.{DebugAsked, words_in}
use Rattle.program.specs.CommandLine.{mos65}
use Rattle.program.specs.Refused.{IsRightRefusal}
use Rattle.clap.specs.Words.{Text}
use Rattle.model.specs.Event.{start}
use Rattle.model.specs.Session.{new_session}
use Rattle.program.specs.Runs.{RunsDebug, Streams, map_asked}
use Rattle.word_debug.proofs.Ends.{ended_of, not_done, strict_of, tells_of}
use Rattle.word_debug.proofs.Passing.{Passes, served_passes, strict_served}
use Rattle.word_debug.specs.Strict.{RunsStrict, ServesStrict}

pub runs_of : (d : DebugAsked) (watch own : Streams) (status result : ℕ) (fault : Bool) (Alone Left : Type 0) → (Alone → Left)
    → Passes watch.held watch.now own.held own.now fault
    → watch.given ≡ own.given → watch.left ≡ own.left
    → (status ≡ 0 → result ≡ (if fault then 5 else 0)) → (1 ≤ status → result ≡ status) → status ≤ 4 → RunsDebug d watch status Alone
    → RunsStrict d own result Left
runs_of d watch own status result fault Alone Left alone passes given left ended failed four plain = record {
  tells = tells_of d.rom d.port status result fault ended failed plain.tells;
  serves = (
    plain.serves.0,
    strict_of plain.serves.0 status result fault ended failed plain.serves.1,
    rw (given, left) at (served_passes watch.held watch.now own.held own.now fault passes (map_asked d) d.history watch.given watch.left Alone Left
        alone plain.serves.0 plain.serves.2),
  );
  ended = λ done.
      let zero = ended_of status result failed four done in
      let served = plain.ended zero in (
        served.0,
        rw given at (strict_served (new_session d.history (start (map_asked d) served.0)) watch.given watch.held watch.now own.held own.now
            fault result passes (ended zero) served.1),
      );
}

-- Memory ran out before a session began.
pub memory_runs : (d : DebugAsked) (streams : Streams) (status : ℕ) (Alone : Type 0) → status ≡ 3 → Alone → RunsStrict d streams status Alone
memory_runs d streams status Alone three alone = record {
  tells = record { bad = λ no. inr three; right = λ makes two. absurd (omega (arith, three, two)) };
  serves = (Err OutOfMemory, three, inl alone);
  ended = λ done. absurd (not_done status three done);
}

-- Memory ran out before the words were read.
pub memory_serves : (plain : List Text) (streams : Streams) (status : ℕ) (Unread Unwritten : Type 0) → status ≡ 3 → Unread → Unwritten
    → ServesStrict plain streams status Unread Unwritten
memory_serves plain streams status Unread Unwritten three unread unwritten = record {
  untouched = λ one two. (unread, unwritten);
  refuses = record {
    untaken = λ misfits. (unread, λ one most. unwritten);
    unasked = λ wrong. (unread, λ one most. unwritten);
    usage = λ misfits help. inr three;
    help = λ asks. inr (inl three);
    value = λ fits wrong. inr three;
  };
  serves = λ d h taken. memory_runs d streams status (Unread × Unwritten) three (unread, unwritten);
}

pub refused_of : (words : List Text) (fault : WordsFault) → IsRightRefusal words fault → IsRefusalOf mos65 words (words_in words ≡ None) fault
refused_of words (Help text) right = right
refused_of words (Usage text) right = right
refused_of words Value right = right
refused_of words (Wrong which) right = absurd right
refused_of words NoMemory right = tt

pub same_words : (plain wanted : List Text) (streams : Streams) (status : ℕ) (Unread Unwritten : Type 0) → plain ≡ wanted
    → ServesStrict plain streams status Unread Unwritten
    → ServesStrict wanted streams status Unread Unwritten
same_words plain wanted streams status Unread Unwritten same serves = subst (λ words. ServesStrict words streams status Unread Unwritten) same serves
