-- What was done after nothing had been done, and what was printed alone.
use Rattle.std.proofs.Common.{◌≡◌, ◌∙◌, ℕ, List, ◌++◌, refl, ap, subst}
use Rattle.kb_io.specs.Bytes.{AppendsPrefix}
use Rattle.kb_io.specs.Outside.{Outside, outside, IsUnchanged}
use Rattle.kb_io.specs.States.{ShelfState, SourceState, SinkState}
use Rattle.kb_task.specs.Effects.{Writes, WritesFront, Stores, LeavesUnknown}

module _ {before between after : Outside} (same : IsUnchanged before between) where
  pub unchanged-later : IsUnchanged between after → IsUnchanged before after
  unchanged-later later = record {
    unread = later.unread ∙ same.unread;
    unwritten = later.unwritten ∙ same.unwritten;
    files = λ name. later.files name ∙ same.files name;
  }

  pub writes-later : {bytes : List ℕ} → Writes bytes between after → Writes bytes before after
  writes-later {bytes} later = record {
    unread = later.unread ∙ same.unread;
    written = later.written ∙ ap (λ w. w ++ bytes) same.unwritten;
    files = λ name. later.files name ∙ same.files name;
  }

  pub front-later : {bytes : List ℕ} → WritesFront bytes between after → WritesFront bytes before after
  front-later {bytes} later = record {
    unread = later.unread ∙ same.unread;
    front = subst (λ w. AppendsPrefix w after.output.written bytes) same.unwritten later.front;
    files = λ name. later.files name ∙ same.files name;
  }

  pub stores-later : {name bytes : List ℕ} → Stores name bytes between after → Stores name bytes before after
  stores-later later = record {
    unread = later.unread ∙ same.unread;
    unwritten = later.unwritten ∙ same.unwritten;
    stored = later.stored;
    others = λ other differs. later.others other differs ∙ same.files other;
  }

  pub leaves_unknown-later : {name : List ℕ} → LeavesUnknown name between after → LeavesUnknown name before after
  leaves_unknown-later later = record {
    unread = later.unread ∙ same.unread;
    unwritten = later.unwritten ∙ same.unwritten;
    others = λ other differs. later.others other differs ∙ same.files other;
  }

-- only the output changed
module _ (shelf : ShelfState) (input : SourceState) (before after : SinkState) where
  pub writes-printed : (bytes : List ℕ) → after.written ≡ before.written ++ bytes
      → Writes bytes (outside shelf input before) (outside shelf input after)
  writes-printed bytes written = record { unread = refl; written = written; files = λ name. refl }

  pub front-printed : (bytes : List ℕ) → AppendsPrefix before.written after.written bytes
      → WritesFront bytes (outside shelf input before) (outside shelf input after)
  front-printed bytes front = record { unread = refl; front = front; files = λ name. refl }

  pub unchanged-printed : after.written ≡ before.written → IsUnchanged (outside shelf input before) (outside shelf input after)
  unchanged-printed unwritten = record { unread = refl; unwritten = unwritten; files = λ name. refl }
