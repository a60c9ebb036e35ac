-- The text of a page: the parts of a template, and between them what it shows. Source: mos65.
use Rattle.std.specs.Prelude.{◌≡◌, ℕ, true, List, ◌∷◌, ◌++◌, codes}
use Rattle.base64.specs.Engines.{standard}
use Rattle.base64.specs.GeneralPurpose.{encode_of}
use Rattle.console.specs.declared.ending.Ending.{Ending}
use Rattle.console.specs.declared.ending.Ending.TheVariants.{Until, Rest, InputOver, Limit, Unwritten, NoReset, NoVector, Refused}
use Rattle.model.specs.declared.event.EventFault.{EventFault}
use Rattle.model.specs.declared.event.EventFault.TheVariants.{ConsoleFull, Undocumented}
use Rattle.page_data.specs.Safe.{escaped, is_safe_text}
use Rattle.page_writer.specs.declared.page.Template.{Template}
use Rattle.page_writer.specs.declared.page.Texts.{Texts}
use Rattle.page_writer.specs.declared.wording.TheConstants.{AT_PLACE, CONSOLE_FULL, CUT, INPUT_OVER, NO_INSTRUCTION, NO_RESET, NO_VECTOR, REJECTED, RESTS, UNWRITTEN}

-- ---- how a run ended

abbrev pub refused_words : EventFault → List ℕ
refused_words ConsoleFull = CONSOLE_FULL.now
refused_words (Undocumented opcode pc) = NO_INSTRUCTION.now
refused_words fault = REJECTED.now

abbrev pub why_words : Ending → List ℕ
why_words Until = AT_PLACE.now
why_words Rest = RESTS.now
why_words InputOver = INPUT_OVER.now
why_words Limit = CUT.now
why_words (Unwritten from) = UNWRITTEN.now
why_words NoReset = NO_RESET.now
why_words NoVector = NO_VECTOR.now
why_words (Refused fault) = refused_words fault

unfoldable pub why_fact : List ℕ → List ℕ
why_fact why = codes "why " ++ (why ++ codes "\n")

-- ---- the parts

-- A part of a template, and behind it a text that begins with a line of its own.
unfoldable pub part_text : List ℕ → List ℕ → List ℕ
part_text before part = before ++ 10 ∷ escaped part

unfoldable pub front_text : Template → Texts → List ℕ
front_text template texts = part_text template.head.now texts.facts.now
    ++ (part_text template.before_source.now texts.source.now ++ template.before_run.now)

unfoldable pub end_text : Template → List ℕ → List ℕ
end_text template why = part_text template.before_end.now (why_fact why)
    ++ template.tail.now

-- The whole text: the run's data stand in it in base64, and then why it ended.
abbrev pub page_text : Template → Texts → List ℕ → List ℕ → List ℕ
page_text template texts bytes why = front_text template texts
    ++ (encode_of standard bytes ++ end_text template why)

-- What stands between the parts is of the alphabet in which nothing ends a script or begins markup.
pub record AreSafe (texts : Texts) (bytes reason : List ℕ) : Type 0 where
  pub facts : is_safe_text (escaped texts.facts.now) ≡ true
  pub source : is_safe_text (escaped texts.source.now) ≡ true
  pub run : is_safe_text (encode_of standard bytes) ≡ true
  pub why : is_safe_text (escaped (why_fact reason)) ≡ true
