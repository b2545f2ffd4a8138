-- What a run means that stores and writes what was found.
use Rattle.std.specs.Prelude.{◌≡◌, ℕ, List, ◌++◌}
use Rattle.kb_io.specs.Bytes.{AppendsPrefix}
use Rattle.kb_io.specs.Outside.{Outside, IsUnchanged, IsUnread}
use Rattle.kb_task.specs.Stores.{Text, HoldsTexts, StoresFirst, StopsAtText, texts_of}
use Rattle.kb_task.specs.declared.status.Status.{Status}
use Rattle.kb_task.specs.declared.status.Status.TheVariants.{Memory, Fault}
use Rattle.kb_task.specs.declared.status.Which.TheVariants.{Store, Output}
use Rattle.kb_cmd_proofs.specs.declared.finding.Finding.{Finding}

-- what may be found: the status, the files that are stored, and the line that is written
abbrev pub Found : Type 1
Found = Status → List Text → List ℕ → Type 0

-- the finding has this status, these files and this line
pub record HasParts (finding : Finding) (status : Status) (texts : List Text) (line : List ℕ)
    : Type 0 where
  pub ends : finding.status ≡ status
  pub stores : texts_of finding.files.items ≡ texts
  pub writes : finding.line.items ≡ line

-- What each status means: what was found was stored and its line written; or the output failed in the line, or the
-- store of a file; or memory ran out before anything was done, or in the stores.
pub data ShowMeans (found : Found) (before after : Outside) : Status → Type 0 where
  shown : {status : Status} {texts : List Text} {line : List ℕ} → found status texts line
      → HoldsTexts texts before.shelf after.shelf → IsUnread before after
      → after.output.written ≡ before.output.written ++ line
      → ShowMeans found before after status
  output_failed : {status : Status} {texts : List Text} {line : List ℕ} → found status texts line
      → HoldsTexts texts before.shelf after.shelf → IsUnread before after
      → AppendsPrefix before.output.written after.output.written line
      → ShowMeans found before after (Fault Output)
  store_failed : {status : Status} {texts : List Text} {line : List ℕ} {name : List ℕ}
      → found status texts line → StopsAtText texts name before after
      → ShowMeans found before after (Fault (Store name))
  no_memory_stored : {status : Status} {texts : List Text} {line : List ℕ}
      → found status texts line → StoresFirst texts before after
      → ShowMeans found before after Memory
  no_memory : IsUnchanged before after → ShowMeans found before after Memory
