-- What a run means that prints and does nothing else.
use Rattle.std.proofs.Common.{◌∙◌, ℕ, List, refl, subst}
use Rattle.kb_io.specs.Outside.{Outside, outside, IsUnchanged}
use Rattle.kb_io.specs.States.{ShelfState, SourceState, SinkState}
use Rattle.kb_task.specs.declared.status.Status.{Status}
use Rattle.kb_listing.specs.Printing.{OnlyPrints}

module _ (AreSo : List ℕ → List ℕ → Status → Type 0) where
  pub only_prints : (shelf : ShelfState) (input : SourceState) (before after : SinkState) (status : Status) → AreSo before.written after.written status
      → OnlyPrints AreSo (outside shelf input before) (outside shelf input after) status
  only_prints shelf input before after status so = record { unread = refl; files = λ name. refl; so = so }

  -- a run that printed so after nothing had been done
  pub prints-later : (before between after : Outside) (status : Status) → IsUnchanged before between
      → OnlyPrints AreSo between after status → OnlyPrints AreSo before after status
  prints-later before between after status same prints = record {
    unread = prints.unread ∙ same.unread;
    files = λ name. prints.files name ∙ same.files name;
    so = subst (λ w. AreSo w after.output.written status) same.unwritten prints.so;
  }
