use Rattle.std.proofs.Common.{◌≡◌, length}
use Rattle.kb_task.specs.Stores.{texts_of}
use Rattle.kb_task.proofs.StoreLemmas.{Storing}
use Rattle.kb_task.proofs.storing.store_texts.Given as goal

-- what is left to be stored
abbrev pub invariant-loop-file : goal.invariant-loop-file
invariant-loop-file g l = record {
  counted : l.file-iterator.rest.len ≡ length l.file-iterator.rest.items;
  storing : Storing (texts_of l.fn.files.items) (texts_of l.file-iterator.rest.items) (g.F.Shelf.state l.fn.shelf) (g.F.Shelf.state l.shelf);
}
