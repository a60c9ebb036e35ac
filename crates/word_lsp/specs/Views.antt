-- What is asked, without where the texts lie in memory.
use Rattle.word_lsp.specs.Answers.{Asked}
use Rattle.word_lsp.specs.declared.questions.Asked.{Asked as Held}

abbrev pub asked_view : Held → Asked
asked_view a = record { client = a.client; uri = a.uri.now; written = a.written.now }
