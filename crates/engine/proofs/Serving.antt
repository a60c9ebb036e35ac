-- What was served of an input that came in pieces.
use Rattle.std.proofs.Common.{◌≡◌, ◌≢◌, ℕ, ◌<◌, Bool, true, false, List, [], ◌∷◌, ◌++◌, Option, Some, None, IfSome, refl, sym, ap, ◌∙◌, subst, append_assoc, append-nil, take, length, arith, length-take}
use Rattle.std.proofs.lemmas.List.Elements.{All-same}
use Rattle.std.specs.Io.KnownBytes.{Consumes}
use Rattle.model.specs.Session.{Session}
use Rattle.model.specs.Commands.{command_of}
use Rattle.model.specs.TextLines.{lines_from, ended_lines_of, last_line, no_line}
use Rattle.model.specs.declared.command.Command.TheVariants.{Quit}
use Rattle.model.specs.Transcript.{Answer, answer_to, after_text, serving_after, serving, transcript, transcript_so_far}
use Rattle.engine.specs.Feeding.{feed}
use Rattle.engine.specs.Outcome.{NoneQuits}
use Rattle.engine.proofs.Feeds.{ServesSoFar, Feeds, feeds, cuts_then, command-kept}

-- what holds of the bytes told and any that are left holds of all that was known
pub known : (a b : Option (List ℕ)) (told : List ℕ) (P : List ℕ → Type 0) → Consumes a b told → ((left : List ℕ) → P (told ++ left)) → IfSome a P
known None b told P c f = tt
known (Some x) None told P c f = absurd c
known (Some x) (Some y) told P c f = subst P (sym c) (f y)

pub length_zero : (xs : List ℕ) → length xs ≡ 0 → xs ≡ []
length_zero [] h = refl
length_zero (x ∷ xs) h = absurd (omega arith)

pub length_some : (xs : List ℕ) → (length xs ≡ 0 → ⊥) → 0 < length xs
length_some [] h = absurd (h refl)
length_some (x ∷ xs) h = omega arith

feeds_kept : (s : Session) (begun kept bytes : List ℕ) → kept ≡ take 257 begun → Feeds s begun bytes (feed s kept bytes)
feeds_kept s begun kept bytes e = subst (λ k. Feeds s begun bytes (feed s k bytes)) (sym e) (feeds s begun bytes)

module _ (start s : Session) (told text kept : List ℕ) (i : ServesSoFar start told text s kept) where
  pub served_more : (bytes : List ℕ) → (feed s kept bytes).quit ≡ false
      → ServesSoFar start (told ++ bytes) (text ++ (feed s kept bytes).written) (feed s kept bytes).session (feed s kept bytes).kept
  served_more bytes on =
      let r = feed s kept bytes in
      let f = feeds_kept s i.begun kept bytes i.front in
      record {
        begun = f.more;
        front = f.front;
        goes_on = λ ending rest.
            ap (λ l. serving start (lines_from ending [] l)) (append_assoc told bytes rest) ∙ i.goes_on ending (bytes ++ rest)
            ∙ ap (after_text text) (f.goes_on on ending rest)
            ∙ (let t = serving r.session (lines_from ending f.more rest) in
            ap (λ w. record { written = w; session = t.session }) (sym (append_assoc text r.written t.written)));
        cuts = cuts_then [] told i.begun bytes f.more i.cuts (f.cuts on);
      }

  pub served_quit : (ending : List ℕ → List (List ℕ)) (bytes rest : List ℕ) → (feed s kept bytes).quit ≡ true
      → serving start (lines_from ending [] (told ++ bytes ++ rest))
      ≡ record { written = text ++ (feed s kept bytes).written; session = (feed s kept bytes).session }
  served_quit ending bytes rest off =
      let f = feeds_kept s i.begun kept bytes i.front in
      ap (λ l. serving start (lines_from ending [] l)) (append_assoc told bytes rest) ∙ i.goes_on ending (bytes ++ rest)
      ∙ ap (after_text text) (f.ends off ending rest)

  -- what bytes give is what the lines give whose end they tell
  pub served_bytes : (bytes : List ℕ) → (more : List ℕ) × ((transcript_so_far start (told ++ bytes)).written ≡ text ++ ((feed s kept bytes).written ++ more))
  served_bytes bytes = by (feed s kept bytes).quit refl
    where
      whole : (transcript_so_far start (told ++ bytes)).written ≡ (serving start (lines_from no_line [] (told ++ bytes ++ []))).written
      whole = ap (λ l. (serving start (lines_from no_line [] l)).written) (sym (append-nil (told ++ bytes)))

      by : (q : Bool) → (feed s kept bytes).quit ≡ q → (more : List ℕ)
          × ((transcript_so_far start (told ++ bytes)).written ≡ text ++ ((feed s kept bytes).written ++ more))
      by true e = ([], whole ∙ ap (λ r. r.written) (served_quit no_line bytes [] e) ∙ ap (λ w. text ++ w) (sym (append-nil (feed s kept bytes).written)))
      by false e = let n = served_more bytes e in (_, whole ∙ ap (λ r. r.written) (n.goes_on no_line []) ∙ append_assoc text (feed s kept bytes).written _)

  pub none_quits : NoneQuits told
  unfolding lines_from
  none_quits = let c = i.cuts in All-same (λ line. command_of line ≢ Quit) (ended_lines_of told) c.lines
      (ap ended_lines_of (sym (append-nil told)) ∙ c.cut no_line [] ∙ append-nil c.lines) c.none

  pub so_far : transcript_so_far start told ≡ record { written = text; session = s }
  unfolding serving lines_from
  so_far = ap (λ l. serving start (lines_from no_line [] l)) (sym (append-nil told)) ∙ i.goes_on no_line []
      ∙ ap (λ w. record { written = w; session = s }) (append-nil text)

  -- at the end there is no line begun
  pub served_all : kept ≡ [] → transcript start told ≡ record { written = text; session = s }
  unfolding serving lines_from
  served_all e = ap (λ l. serving start (lines_from last_line [] l)) (sym (append-nil told)) ∙ i.goes_on last_line [] ∙ none i.begun i.front
    where
      none : (begun : List ℕ) → kept ≡ take 257 begun → after_text text (serving s (lines_from last_line begun [])) ≡ record { written = text; session = s }
      none [] f = ap (λ w. record { written = w; session = s }) (append-nil text)
      none (b ∷ bs) f = let bad : take 257 (b ∷ bs) ≡ [] = sym f ∙ e in absurd (omega (arith, ap length bad, length-take 257 (b ∷ bs)))

  -- or the one begun is the last
  pub served_last : 0 < length kept → transcript start told ≡ record
      { written = text ++ (answer_to (command_of kept) s).written; session = (answer_to (command_of kept) s).session }
  unfolding serving lines_from
  served_last h = ap (λ l. serving start (lines_from last_line [] l)) (sym (append-nil told)) ∙ i.goes_on last_line [] ∙ last i.begun i.front
    where
      answered : (a : Answer) (q : Bool) → a.quit ≡ q → after_text text (serving_after a (λ t. serving t []))
          ≡ record { written = text ++ a.written; session = a.session }
      answered a true e = rw e refl
      answered a false e = rw (e, append-nil a.written) refl

      last : (begun : List ℕ) → kept ≡ take 257 begun → after_text text (serving s (lines_from last_line begun []))
          ≡ record { written = text ++ (answer_to (command_of kept) s).written; session = (answer_to (command_of kept) s).session }
      last [] f = absurd (omega (arith, ap length f))
      last (b ∷ bs) f = rw (f, command-kept (b ∷ bs)) (answered (answer_to (command_of (b ∷ bs)) s) _ refl)
