-- Lists of files that are set again, one after another.
use Rattle.std.proofs.Common.{◌≡◌, List, [], ◌∷◌, refl, sym, subst}
use Rattle.dap_messages.specs.declared.counting.Counting.{Counting}
use Rattle.dap_messages.specs.declared.listed.FileLines.{FileLines}
use Rattle.dap_session.specs.Answered.{SetsFileAgain, SetsFilesAgain}
use Rattle.dap_session.specs.declared.client.Client.{Client}
use Rattle.dap_views.specs.declared.source.FilePath.{FilePath}

module _ (counting : Counting) (files : List FilePath) (lists : List FileLines) (first : Client) where
  -- what the lists that are left do, all do
  abbrev pub Leads : List FileLines → Client → Type 0
  Leads items client = (new : Client) → SetsFilesAgain counting files items client new → SetsFilesAgain counting files lists first new

  pub begins : (items : List FileLines) → items ≡ lists → Leads items first
  begins items same new again = subst (λ (ls : List FileLines). SetsFilesAgain counting files ls first new) same again

  pub goes : (items rest : List FileLines) (listed : FileLines) (client between : Client) → Leads items client → items ≡ listed ∷ rest
      → SetsFileAgain counting files listed client between → Leads rest between
  goes items rest listed client between leads split sets new again =
      leads new (subst (λ (ls : List FileLines). SetsFilesAgain counting files ls client new) (sym split) (between, sets, again))

  pub ends : (items : List FileLines) (client : Client) → Leads items client → items ≡ [] → SetsFilesAgain counting files lists first client
  ends items client leads none =
      leads client (subst (λ (ls : List FileLines). SetsFilesAgain counting files ls client client) (sym none) refl)
